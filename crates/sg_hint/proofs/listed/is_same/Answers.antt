use Rattle.std.proofs.Common.{arith}
use Rattle.sg_hint.proofs.Positions.{same-by}
use Rattle.sg_hint.proofs.listed.is_same.Goals as goal

pub returns : goal.returns
returns c = same-by c.args.fault.now c.args.other.now c.is_kind.result c.is_kind.ensures (omega arith) (omega arith)
