use Rattle.std.proofs.Common.{arith}
use Rattle.sg_hint.proofs.Positions.{again-by, decides-not}
use Rattle.sg_hint.proofs.listed.is_again.Goals as goal

pub returns : goal.returns
returns c = again-by c.args.fault.now c.args.again.now c.is_kind.result c.is_kind.ensures (omega arith) (omega arith)
