use Rattle.std.proofs.Common.{◌≡◌, Ok, Err, refl, sym, ◌∙◌, arith}
use Rattle.sg_codec.specs.Reading.{reading}
use Rattle.sg_codec.proofs.EntryLaws.{reading_takes, reading_again}
use Rattle.sg_codec.proofs.reading.decode.Goals as goal

pub returns-in-Ok-clause-found : goal.returns-in-Ok-clause-found
unfolding reading
returns-in-Ok-clause-found c = reading_takes c.args.bytes.now c.in-Ok.kept (λ i. omega (arith, c.type_inv.bytes i)) (rw c.in-Ok.ensures refl)

pub returns-in-Ok-clause-only : goal.returns-in-Ok-clause-only
unfolding reading
returns-in-Ok-clause-only c = λ kept spells. let read : reading c.args.bytes.now ≡ Ok c.in-Ok.kept = rw c.in-Ok.ensures refl in sym (reading_again c.args.bytes.now kept spells) ∙ read

pub returns-in-Ok-clause-exact : goal.returns-in-Ok-clause-exact
unfolding reading
returns-in-Ok-clause-exact c = rw c.in-Ok.ensures refl

pub returns-in-Err-Damaged-clause-only : goal.returns-in-Err-Damaged-clause-only
unfolding reading
returns-in-Err-Damaged-clause-only c = λ kept spells.
    let left = rw c.in-Err-Damaged.field-0-is at (c.in-Err-Damaged.ensures {u = tt}) in
    let refused : reading c.args.bytes.now ≡ Err c.saturating_sub.result = rw (left, c.saturating_sub.ensures) refl in
    sym (reading_again c.args.bytes.now kept spells) ∙ refused

pub returns-in-Err-Damaged-clause-exact : goal.returns-in-Err-Damaged-clause-exact
unfolding reading
returns-in-Err-Damaged-clause-exact c =
    let left = rw c.in-Err-Damaged.field-0-is at (c.in-Err-Damaged.ensures {u = tt}) in
    rw (left, c.saturating_sub.ensures) refl
