use Rattle.std.proofs.Common.{◌≡◌, ◌∙◌, ◌<◌, ap, take, arith, rules, refl, ℕ, List, ◌++◌, length, to_z, of_z, w64}
use Rattle.std.proofs.lemmas.Int.{to_z-of_z}
use Rattle.std.specs.Prelude.{map, max, Some, false, ◌+◌}
use Rattle.sg_device.specs.Inlet.{Part, stamped, with_bytes}
use Rattle.sg_memory.specs.Part.{part_of, listed, peer_of, left_of, total_given}
use Rattle.sg_memory.specs.Parts.{begun}
use Rattle.sg_memory.specs.declared.part.MemoryPart.{MemoryPart}
use Rattle.sg_memory.proofs.Giving.{gives_told, gives_left, gives_peer, gives_total, gives_count, begins_total, begins_count, left-told, not-single}
use Rattle.sg_memory.proofs.inlet.MemoryInletInlet.pull.Goals as goal

pub returns-then-left-gt0-clause-told : goal.returns-then-left-gt0-clause-told
returns-then-left-gt0-clause-told c =
    let old = c.args.self.now in
    let parts = old.parts in
    let now = c.give-len.new.self.present in
    let len = c.give-len.result in
    let next : List ℕ = take len c.give-len.new.into in
    let moment : to_z w64 (of_z w64 old.at) ≡ old.at = grind (arith, to_z-of_z) in
    let some : 0 < length (left_of parts.present) = grind (arith, c.left.ensures, c.if-left-gt0.true) in
    let past : begun c.give-len.new.self ≡ parts.past.items ++ listed now = ap (λ p. p.items ++ listed now) c.give-len.ensures.past in
    let told : map (part_of old.at) (parts.past.items ++ listed now) ≡ with_bytes (map (part_of old.at) (begun parts)) (peer_of now) (stamped next old.at) =
    gives_told old.at parts.past.items parts.present now len next (peer_of now) some c.give-len.ensures.present parts.within c.give-len.ensures.front in
    let all : map (part_of old.at) (begun c.give-len.new.self) ≡ with_bytes (map (part_of old.at) (begun parts)) (peer_of now) (stamped next old.at) =
    ap (λ (l : List MemoryPart). map (part_of old.at) l) past ∙ told in
    rw moment (ap (λ (l : List Part). Some l) all, gives_peer parts.present now len c.give-len.ensures.present)

pub returns-then-left-gt0-clause-left : goal.returns-then-left-gt0-clause-left
returns-then-left-gt0-clause-left c =
    let old = c.args.self.now in
    let parts = old.parts in
    let now = c.give-len.new.self.present in
    let len = c.give-len.result in
    let next : List ℕ = take len c.give-len.new.into in
    let some : 0 < length (left_of parts.present) = grind (arith, c.left.ensures, c.if-left-gt0.true) in
    left-told old.single (left_of parts.present) next (left_of now) (gives_left parts.present now len next some c.give-len.ensures.present c.give-len.ensures.front)

pub returns-then-left-gt0-clause-adds : goal.returns-then-left-gt0-clause-adds
returns-then-left-gt0-clause-adds c =
    let old = c.args.self.now in
    let parts = old.parts in
    let now = c.give-len.new.self.present in
    let len = c.give-len.result in
    let some : 0 < length (left_of parts.present) = grind (arith, c.left.ensures, c.if-left-gt0.true) in
    let past : begun c.give-len.new.self ≡ parts.past.items ++ listed now = ap (λ p. p.items ++ listed now) c.give-len.ensures.past in
    let total : total_given (begun c.give-len.new.self) ≡ total_given (begun parts) + len = ap total_given past ∙ gives_total parts.past.items parts.present now len some c.give-len.ensures.present in
    let count : length (begun c.give-len.new.self) ≡ max (length (begun parts)) 1 = ap (λ (l : List MemoryPart). length l) past ∙ gives_count parts.past.items parts.present now len some c.give-len.ensures.present in
    let hung : old.hung ≡ false = search rules in
    record { counts = (refl, refl, total, count, c.if-self-2.false, c.if-self-2.false, hung, hung, refl); faults = omega arith }

pub returns-then-begin-clause-adds : goal.returns-then-begin-clause-adds
returns-then-begin-clause-adds c =
    let old = c.args.self.now in
    let parts = old.parts in
    let begins = c.if-begin.ensures in
    let total : total_given (begun c.begin.new.self) ≡ total_given (begun parts) = begins_total (begun parts) c.begin.new.self.past.items c.begin.new.self.present begins.0 begins.2 in
    let count : length (begun c.begin.new.self) ≡ length (begun parts) + 1 = begins_count (begun parts) c.begin.new.self.past.items c.begin.new.self.present begins.0 begins.1 in
    let single : old.single ≡ false = not-single old.single parts.waiting.items (length c.begin.new.self.waiting.items) old.alone begins.3 in
    record { counts = (refl, refl, total, count, c.if-self-2.false, c.if-self-2.false, refl, single, single); faults = omega arith }
