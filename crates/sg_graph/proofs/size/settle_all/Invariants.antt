use Rattle.std.proofs.Common.{◌≡◌, length}
use Rattle.sg_graph.specs.Sizes.{AreSizes}
use Rattle.sg_graph.specs.Visits.{unseen}
use Rattle.sg_graph.proofs.size.settle_all.Given as goal

abbrev pub invariant-loop-node : goal.invariant-loop-node
invariant-loop-node l = AreSizes l.links l.own l.most l.done l.sizes

abbrev pub decreases-loop-node : goal.decreases-loop-node
decreases-loop-node l = unseen l.done
