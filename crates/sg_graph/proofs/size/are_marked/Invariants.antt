use Rattle.std.proofs.Common.{◌≡◌, ℕ, true, get_or, take}
use Rattle.std.specs.List.{Contains}
use Rattle.sg_graph.proofs.size.are_marked.Given as goal

abbrev pub invariant-loop-node : goal.invariant-loop-node
invariant-loop-node l = (j : ℕ) → Contains (take l.node-index l.nodes) j → get_or l.marks j true ≡ true
