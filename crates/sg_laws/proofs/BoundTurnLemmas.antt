-- The turns of a source that do something.
use Rattle.std.proofs.Common.{arith, ◌≡◌, ◌≤◌, ◌<◌, ℕ, ◌+◌, ◌-◌, ◌^◌, Option, Some, None, List, [], ◌∷◌, length, ap, sym, ◌∙◌, subst}
use Rattle.std.specs.Prelude.{◌||◌, not, nat_lt, nat_le}
use Rattle.sg_msg.specs.declared.offer.Offer.{Offer}
use Rattle.sg_frame.specs.Records.{Record}
use Rattle.sg_counter.specs.Exchanges.{Exchange}
use Rattle.sg_actor.specs.Bringing.{admitted_in, has_admitted, stores_in}
use Rattle.sg_actor.specs.Positions.{is_same_credit, has_news}
use Rattle.sg_actor.specs.Reading.{one_if}
use Rattle.sg_actor.specs.SourceTurns.{ActorState, rests, TurnsWith}
use Rattle.sg_actor.specs.Steps.{parts_over, has_pulled, was_idle}
use Rattle.sg_actor.specs.declared.position.Position.{Position}
use Rattle.sg_actor.specs.declared.settings.SourceSpec.{SourceSpec}
use Rattle.sg_actor.specs.declared.turned.Turned.{Turned}
use Rattle.sg_turns.specs.Turns.{Turn, any_step, result_of, calls_of, TookTurns}
use Rattle.sg_turns.specs.Serving.{is_busy_answer, busy_of}
use Rattle.sg_laws.specs.Bounds.{SourceIsBounded}
use Rattle.sg_laws.specs.Counts.{changes, writes_in}
use Rattle.sg_laws.proofs.CountLemmas.{pulled-split, turn-sum, not-sum, rises, fails-paid, ends-paid, changes-turn, after-credit, written-both, admitted-length, broken-stays, news-paid}
use Rattle.sg_turns.proofs.BoundLemmas.{one-most}

-- what is counted of a source
abbrev weight : ActorState → ℕ
weight s = s.source.feed.bytes + s.source.feed.parts + s.source.feed.faults + s.source.feed.idles + parts_over s.source.reader.given_up s.source.feed.parts + one_if s.position.broken + one_if s.source.reader.ended

-- no count falls
record GrowsByTurn (old new : ActorState) : Type 0 where
  bytes : old.source.feed.bytes ≤ new.source.feed.bytes
  parts : old.source.feed.parts ≤ new.source.feed.parts
  faults : old.source.feed.faults ≤ new.source.feed.faults
  idles : old.source.feed.idles ≤ new.source.feed.idles
  over : parts_over old.source.reader.given_up old.source.feed.parts ≤ parts_over new.source.reader.given_up new.source.feed.parts

grows-same : (s : ActorState) → GrowsByTurn s s
grows-same s = record { bytes = omega arith; parts = omega arith; faults = omega arith; idles = omega arith; over = omega arith }

grows-both : (a b c : ActorState) → GrowsByTurn a b → GrowsByTurn b c → GrowsByTurn a c
grows-both a b c h k = record {
  bytes = (let x = h.bytes in let y = k.bytes in omega (arith, x, y));
  parts = (let x = h.parts in let y = k.parts in omega (arith, x, y));
  faults = (let x = h.faults in let y = k.faults in omega (arith, x, y));
  idles = (let x = h.idles in let y = k.idles in omega (arith, x, y));
  over = (let x = h.over in let y = k.over in omega (arith, x, y));
}

-- A turn.

turn-grows : (offers : ℕ → Record → List Offer → Type 0) (dests : ℕ) (spec : SourceSpec) (old new : ActorState) (answer : Option Turned) (made : List Exchange) (ups credit : ℕ)
    → TurnsWith {E = Unit {0}} offers dests spec any_step (tt {0}) (tt {0}) old new (result_of answer) made ups credit → GrowsByTurn old new
turn-grows offers dests spec old new answer made ups credit h = record {
  bytes = (let x = h.advances.bytes in omega (arith, x));
  parts = h.advances.parts;
  faults = h.advances.faults;
  idles = h.advances.idles;
  over = (let x = h.parts in omega (arith, x));
}

broken-after : (offers : ℕ → Record → List Offer → Type 0) (dests : ℕ) (spec : SourceSpec) (old new : ActorState) (answer : Option Turned) (made : List Exchange) (ups credit : ℕ)
    → TurnsWith {E = Unit {0}} offers dests spec any_step (tt {0}) (tt {0}) old new (result_of answer) made ups credit → one_if old.position.broken ≤ one_if new.position.broken
broken-after offers dests spec old new answer made ups credit h =
    let stays = broken-stays new.source.reader.end (stores_in made) (record old.position { credit = Some credit }) in
    let is = ap (λ (p : Position). one_if p.broken) h.position in
    omega (arith, stays, is)

-- what pays for it
turn-paid : (answer : Option Turned) (offers : ℕ → Record → List Offer → Type 0) (dests : ℕ) (spec : SourceSpec) (old new : ActorState) (made : List Exchange) (ups credit : ℕ) → new.source.feed.faults < 2 ^ 64 - 1
    → TurnsWith {E = Unit {0}} offers dests spec any_step (tt {0}) (tt {0}) old new (result_of answer) made ups credit
    → one_if (is_busy_answer answer) + weight old ≤ weight new + (length (admitted_in made) + one_if (not (is_same_credit old.position.credit credit)) + writes_in made)
turn-paid (Some turned) offers dests spec old new made ups credit below h =
    let t = h.tells in
    let quiet = rests old new made ups credit in
    let sum : one_if (turned.did || turned.idle) ≤ one_if (has_pulled old.source new.source) + one_if (has_admitted made) + one_if (nat_lt 0 ups) + one_if (not (is_same_credit old.position.credit credit)) + one_if (has_news (stores_in made)) + one_if (was_idle old.source new.source) =
    turn-sum turned.did turned.idle (has_pulled old.source new.source) (has_admitted made) (nat_lt 0 ups) (is_same_credit old.position.credit credit) (has_news (stores_in made)) (was_idle old.source new.source) t.did t.idle in
    let pulled : one_if (has_pulled old.source new.source) ≤ one_if (nat_lt old.source.feed.bytes new.source.feed.bytes) + one_if (nat_lt old.source.feed.parts new.source.feed.parts) + one_if (nat_lt (one_if old.source.reader.ended) (one_if new.source.reader.ended))
    + one_if (nat_lt (one_if old.source.reader.failed) (one_if new.source.reader.failed)) =
    pulled-split (nat_lt old.source.feed.bytes new.source.feed.bytes) (nat_lt old.source.feed.parts new.source.feed.parts)
    (nat_lt (one_if old.source.reader.ended) (one_if new.source.reader.ended)) (nat_lt (one_if old.source.reader.failed) (one_if new.source.reader.failed)) in
    let grows = turn-grows offers dests spec old new (Some turned) made ups credit h in
    let bytes = rises old.source.feed.bytes new.source.feed.bytes grows.bytes in
    let parts = rises old.source.feed.parts new.source.feed.parts grows.parts in
    let ends = ends-paid old.source.reader.ended new.source.reader.ended h.ended in
    let faults = fails-paid old.source.reader.failed new.source.reader.failed old.source.feed.faults new.source.feed.faults h.failing grows.faults below in
    let idles : one_if (was_idle old.source new.source) + old.source.feed.idles ≤ new.source.feed.idles = rises old.source.feed.idles new.source.feed.idles grows.idles in
    let some : one_if (has_admitted made) + 0 ≤ length (admitted_in made) = rises 0 (length (admitted_in made)) (omega arith) in
    let up = rises 0 ups (omega arith) in
    let over = h.parts in
    let news = news-paid (stores_in made) spec.stored (quiet || nat_le 262144 (new.source.reader.end - old.position.asked)) new.source.reader.end (record old.position { credit = Some credit }) t.asks in
    let broken = ap (λ (p : Position). one_if p.broken) h.position in
    omega (arith, sum, pulled, bytes, parts, ends, faults, idles, some, up, over, news, broken)
turn-paid None offers dests spec old new made ups credit below h =
    let grows = turn-grows offers dests spec old new None made ups credit h in
    let broken = broken-after offers dests spec old new None made ups credit h in
    let ends = ends-paid old.source.reader.ended new.source.reader.ended h.ended in
    let bytes = grows.bytes in
    let parts = grows.parts in
    let faults = grows.faults in
    let idles = grows.idles in
    let over = grows.over in
    omega (arith, broken, ends, bytes, parts, faults, idles, over)

credit-then : (offers : ℕ → Record → List Offer → Type 0) (dests : ℕ) (spec : SourceSpec) (old new : ActorState) (answer : Option Turned) (made : List Exchange) (ups credit : ℕ)
    → TurnsWith {E = Unit {0}} offers dests spec any_step (tt {0}) (tt {0}) old new (result_of answer) made ups credit → new.position.credit ≡ Some credit
credit-then offers dests spec old new answer made ups credit h = ap (λ (p : Position). p.credit) h.position ∙ after-credit new.source.reader.end (stores_in made) (record old.position { credit = Some credit })

-- Turns.

record Pays (busy admitted changed written : ℕ) (old new : ActorState) : Type 0 where
  grows : GrowsByTurn old new
  paid : busy + weight old ≤ weight new + (admitted + changed + written)

turns-paid : (offers : ℕ → Record → List Offer → Type 0) (dests : ℕ) (spec : SourceSpec) (old new : ActorState) (turns : List Turn) → TookTurns offers dests spec old new turns → new.source.feed.faults < 2 ^ 64 - 1
    → Pays (busy_of turns) (length (admitted_in (calls_of turns))) (changes old.position.credit (calls_of turns)) (writes_in (calls_of turns)) old new
turns-paid offers dests spec old new [] took below =
    subst (λ s. Pays 0 0 0 0 old s) (sym took) (record { grows = grows-same old; paid = omega arith })
turns-paid offers dests spec old new (turn ∷ turns) (mid, (one, rest)) below =
    let k = turns-paid offers dests spec mid new turns rest below in
    let h = one.takes in
    let later = k.grows.faults in
    let first = turn-paid turn.answer offers dests spec old mid turn.made one.ups one.credit (omega (arith, later, below)) h in
    let grown = turn-grows offers dests spec old mid turn.answer turn.made one.ups one.credit h in
    let told = credit-then offers dests spec old mid turn.answer turn.made one.ups one.credit h in
    let same : changes mid.position.credit (calls_of turns) ≡ changes (Some one.credit) (calls_of turns) = ap (λ c. changes c (calls_of turns)) told in
    let changed = changes-turn old.position.credit spec.inlet one.credit turn.made (calls_of turns) h.asks in
    let admitted = admitted-length turn.made (calls_of turns) in
    let written = written-both turn.made (calls_of turns) in
    let then = k.paid in
    record { grows = grows-both old mid new grown k.grows; paid = omega (arith, first, then, same, changed, admitted, written) }

pub source-bounded : (offers : ℕ → Record → List Offer → Type 0) (dests : ℕ) (spec : SourceSpec) (old new : ActorState) (turns : List Turn) → SourceIsBounded offers dests spec old new turns
source-bounded offers dests spec old new turns took below =
    let h = turns-paid offers dests spec old new turns took below in
    let paid = h.paid in
    let bytes = h.grows.bytes in
    let parts = h.grows.parts in
    let faults = h.grows.faults in
    let idles = h.grows.idles in
    let over = h.grows.over in
    let before = not-sum old.position.broken in
    let after = one-most new.position.broken in
    let once = one-most new.source.reader.ended in
    omega (arith, paid, bytes, parts, faults, idles, over, before, after, once)
