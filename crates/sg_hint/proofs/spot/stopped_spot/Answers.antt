use Rattle.sg_hint.proofs.Spots.{stopped-by}
use Rattle.sg_hint.proofs.spot.stopped_spot.Goals as goal

pub returns : goal.returns
returns c = stopped-by c.args.fault.now c.args.again.now c.args.text.now c.in_ok-column.column c.plain_spot.result
    (c.is_same.ensures.0 c.if-not-is_same.false) c.in_ok-column.ensures c.plain_spot.ensures
