use Rattle.std.proofs.Common.{◌≡◌, ◌+◌, ◌++◌, ◌≤◌, length, deque_len, vec_capacity}
use Rattle.sg_crew.specs.Workers.{actors_of}
use Rattle.sg_crew.proofs.worker.seat_all.Given as goal

abbrev pub invariant-loop-actor : goal.invariant-loop-actor
invariant-loop-actor g l = record {
  actors : actors_of l.workers.items ++ l.rest.items ≡ l.fn.actors.items;
  capacity : length l.workers.items + length l.rest.items ≤ vec_capacity l.workers;
  first : l.first ≡ l.fn.first;
}

abbrev pub decreases-loop-actor : goal.decreases-loop-actor
decreases-loop-actor g l = deque_len l.rest
