use Rattle.std.proofs.Common.{◌≡◌, length}
use Rattle.sg_graph.specs.Sizes.{AreSizes}
use Rattle.sg_graph.proofs.size.settle_in_order.Given as goal

abbrev pub invariant-loop-node : goal.invariant-loop-node
invariant-loop-node l = AreSizes l.links l.own l.most l.initial.done l.initial.sizes → AreSizes l.links l.own l.most l.done l.sizes
