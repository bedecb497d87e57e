use Rattle.std.proofs.Common.{ℕ, ◌<◌, ◌≤◌, get_or}
use Rattle.std.specs.List.{Contains}
use Rattle.sg_graph.specs.Graph.{row_of}
use Rattle.sg_graph.proofs.rank.never_rises.Given as goal

abbrev pub invariant-loop-node : goal.invariant-loop-node
invariant-loop-node l = (i j : ℕ) → i < l.node → Contains (row_of l.links i) j → get_or l.ranks j 0 ≤ get_or l.ranks i 0
