use Rattle.std.proofs.Common.{◌≡◌, ◌≤◌, ◌+◌, length, vec_len, vec_capacity}
use Rattle.sg_crew.specs.Pools.{AllKept}
use Rattle.sg_crew.proofs.pool.share.Given as goal

abbrev pub invariant-loop-worker : goal.invariant-loop-worker
invariant-loop-worker g l = record {
  kept : AllKept g.K.WorkerInvariant.kept l.workers.items;
  all : length l.slots.items + length l.workers.items ≡ length l.initial.workers.items;
  fits : length l.slots.items + length l.workers.items ≤ vec_capacity l.slots;
  capacity : vec_capacity l.workers ≡ vec_capacity l.initial.workers;
}

abbrev pub decreases-loop-worker : goal.decreases-loop-worker
decreases-loop-worker g l = vec_len l.workers
