use Rattle.std.proofs.Common.{◌≡◌, ◌∙◌, ◌+◌, ◌-◌, ◌++◌, ap, sym, List, ℕ, length, take, drop, replicate}
use Rattle.std.proofs.lemmas.List.{take_at, length-replicate}
use Rattle.sg_device.proofs.Parts.{overlaid_grown}
use Rattle.sg_memory_disk.proofs.laying.fill.Goals as goal

pub returns : goal.returns
returns c =
    let at = c.args.start in
    let n = c.args.count in
    let from = replicate n c.args.byte in
    let old = c.args.into.now.items in
    let whole : c.deref_mut.result.now ≡ c.grow.new.bytes.items = c.deref_mut.ensures.value in
    let grown : c.grow.new.bytes.items ≡ old ++ replicate (at + n - length old) c.args.byte = c.in_ok-grow.ensures in
    let long : length c.fill_over.new.bytes ≡ c.grow.new.bytes.len = c.fill_over.auto.bytes ∙ c.deref_mut.ensures.len in
    let many : n ≡ length from = sym (length-replicate n c.args.byte) in
    take_at c.fill_over.new.bytes _ c.grow.new.bytes.len long
    ∙ c.fill_over.ensures
    ∙ ap (λ (l : List ℕ). take at l ++ from ++ drop (at + n) l) (whole ∙ grown)
    ∙ ap (λ (m : ℕ). take at (old ++ replicate (at + n - length old) c.args.byte) ++ from ++ drop (at + m) (old ++ replicate (at + n - length old) c.args.byte)) many
    ∙ overlaid_grown c.args.byte at from old _ (ap (λ (m : ℕ). at + m - length old) many)
