use Rattle.std.proofs.Common.{ℕ, ◌<◌}
use Rattle.sg_graph.specs.Sizes.{IsNodeHeld}
use Rattle.sg_graph.proofs.size.next_ready.Given as goal

abbrev pub invariant-loop-node : goal.invariant-loop-node
invariant-loop-node l = (i : ℕ) → i < l.node → IsNodeHeld l.links l.done i
