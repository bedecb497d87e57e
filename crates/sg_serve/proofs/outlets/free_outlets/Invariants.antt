use Rattle.std.proofs.Common.{◌≡◌, ◌≤◌, ◌+◌, ◌++◌, length, map, vec_capacity, deque_len}
use Rattle.sg_serve.proofs.outlets.free_outlets.Given as goal

abbrev pub invariant-loop-dest : goal.invariant-loop-dest
invariant-loop-dest g l = record {
  moved : l.outlets.items ++ map (λ a. a.outlet) l.rest.items ≡ map (λ a. a.outlet) l.fn.dests.items;
  room : length l.outlets.items + length l.rest.items ≤ vec_capacity l.outlets;
}

abbrev pub decreases-loop-dest : goal.decreases-loop-dest
decreases-loop-dest g l = deque_len l.rest
