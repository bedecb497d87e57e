use Rattle.sg_r5424.proofs.PlainValues.{plain_ends}
use Rattle.sg_r5424.proofs.values.plain_place.Goals as goal

pub returns-then-first_is : goal.returns-then-first_is
returns-then-first_is c = plain_ends c.args.text.now c.plain_len-place.result c.plain_len-place.ensures.value c.plain_len-place.ensures.within c.if-first_is.ensures
