use Rattle.std.proofs.Common.{◌+◌, length}
use Rattle.sg_graph.specs.Visits.{unseen}
use Rattle.sg_graph.proofs.Searching.{IsSearch}
use Rattle.sg_graph.proofs.search.search.Given as goal

abbrev pub invariant-loop-node : goal.invariant-loop-node
invariant-loop-node l = IsSearch l.links l.from l.seen l.waiting.items

abbrev pub decreases-loop-node : goal.decreases-loop-node
decreases-loop-node l = unseen l.seen + length l.waiting.items
