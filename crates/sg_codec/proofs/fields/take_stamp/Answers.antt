use Rattle.std.proofs.Common.{◌≡◌, ◌∙◌, to_z, of_z, arith}
use Rattle.std.specs.Int.{w16, w64}
use Rattle.std.proofs.lemmas.Int.{ints}
use Rattle.sg_codec.proofs.StampLaws.{stamp-valid, stamp-damaged, invalid-test}
use Rattle.sg_codec.proofs.fields.take_stamp.Goals as goal

pub returns-then-not-is_valid-clause-field : goal.returns-then-not-is_valid-clause-field
returns-then-not-is_valid-clause-field c =
    let at_is : to_z w64 (of_z w64 c.cast_signed-at.result) ≡ c.cast_signed-at.result = omega (arith, ints) in
    let offset_is : to_z w16 (of_z w16 c.cast_signed-offset.result) ≡ c.cast_signed-offset.result = omega (arith, ints) in
    let damaged = stamp-damaged c.args.rest.now _ _ c.take_u64.new.rest c.take_u16.new.rest _ c.in_ok-take_u64.ensures c.in_ok-take_u16.ensures (at_is ∙ c.cast_signed-at.ensures) (offset_is ∙ c.cast_signed-offset.ensures) (invalid-test _ c.is_valid.result c.is_valid.ensures.1 c.if-not-is_valid.true) in
    rw c.len-left.ensures.value damaged

pub returns-clause-field : goal.returns-clause-field
returns-clause-field c =
    let at_is : to_z w64 (of_z w64 c.cast_signed-at.result) ≡ c.cast_signed-at.result = omega (arith, ints) in
    let offset_is : to_z w16 (of_z w16 c.cast_signed-offset.result) ≡ c.cast_signed-offset.result = omega (arith, ints) in
    stamp-valid c.args.rest.now _ _ c.take_u64.new.rest c.take_u16.new.rest _ c.in_ok-take_u64.ensures c.in_ok-take_u16.ensures (at_is ∙ c.cast_signed-at.ensures) (offset_is ∙ c.cast_signed-offset.ensures) (c.is_valid.ensures.0 c.if-not-is_valid.false)
