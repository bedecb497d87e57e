use Rattle.std.proofs.Common.{take}
use Rattle.sg_graph.specs.Visits.{VisitsNodes}
use Rattle.sg_graph.proofs.search.visit.Given as goal

abbrev pub invariant-loop-node : goal.invariant-loop-node
invariant-loop-node l = VisitsNodes (take l.node-index l.nodes) l.initial.seen l.initial.waiting.items l.seen l.waiting.items
