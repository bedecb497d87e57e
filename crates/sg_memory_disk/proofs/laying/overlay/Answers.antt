use Rattle.std.proofs.Common.{◌≡◌, ◌∙◌, ◌+◌, ◌-◌, ◌++◌, ap, refl, List, ℕ, length, take, drop, replicate}
use Rattle.std.proofs.lemmas.List.{take_at}
use Rattle.sg_device.proofs.Parts.{overlaid_grown}
use Rattle.sg_memory_disk.proofs.laying.overlay.Goals as goal

pub returns : goal.returns
returns c =
    let at = c.args.start in
    let from = c.args.from.now in
    let old = c.args.into.now.items in
    let whole : c.deref_mut.result.now ≡ c.grow.new.bytes.items = c.deref_mut.ensures.value in
    let grown : c.grow.new.bytes.items ≡ old ++ replicate (at + length from - length old) 0 = c.in_ok-grow.ensures in
    let long : length c.copy_over.new.bytes ≡ c.grow.new.bytes.len = c.copy_over.auto.bytes ∙ c.deref_mut.ensures.len in
    take_at c.copy_over.new.bytes _ c.grow.new.bytes.len long
    ∙ c.copy_over.ensures
    ∙ ap (λ (l : List ℕ). take at l ++ from ++ drop (at + length from) l) (whole ∙ grown)
    ∙ overlaid_grown 0 at from old _ refl
