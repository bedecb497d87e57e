use Rattle.std.proofs.Common.{ℕ, ◌<◌}
use Rattle.sg_graph.specs.Graph.{IsOnCycle}
use Rattle.sg_graph.proofs.cycle.first_on_cycle.Given as goal

abbrev pub invariant-loop-node : goal.invariant-loop-node
invariant-loop-node l = (j : ℕ) → j < l.node → IsOnCycle l.links j → ⊥
