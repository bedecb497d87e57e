use Rattle.std.proofs.Common.{◌≡◌, ◌+◌, ◌++◌, ◌≤◌, length, deque_len, vec_capacity}
use Rattle.sg_crew.specs.Workers.{actors_of}
use Rattle.sg_crew.proofs.worker.free_all.Given as goal

abbrev pub invariant-loop-worker : goal.invariant-loop-worker
invariant-loop-worker g l = record {
  actors : l.actors.items ++ actors_of l.rest.items ≡ actors_of l.fn.workers.items;
  capacity : length l.actors.items + length l.rest.items ≤ vec_capacity l.actors;
}

abbrev pub decreases-loop-worker : goal.decreases-loop-worker
decreases-loop-worker g l = deque_len l.rest
