use Rattle.std.proofs.Common.{◌≡◌, ◌+◌, ℕ, min, get_or, take}
use Rattle.std.specs.List.{sum_by}
use Rattle.sg_graph.proofs.size.size_now.Given as goal

abbrev pub invariant-loop-next : goal.invariant-loop-next
invariant-loop-next l = l.sum ≡ min l.most (get_or l.own l.node 0 + sum_by (λ (j : ℕ). get_or l.sizes j 0) (take l.next-index l.next-items))
