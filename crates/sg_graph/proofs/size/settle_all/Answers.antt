use Rattle.std.proofs.Common.{arith}
use Rattle.sg_graph.proofs.Settling.{sizes-known}
use Rattle.sg_graph.proofs.size.settle_all.Goals as goal

pub returns : goal.returns
returns c =
    sizes-known _ _ _ c.loop-node.done _ c.requires.acyclic (omega arith) c.in_default.ensures c.loop-node.invariant
