use Rattle.std.proofs.Common.{◌≡◌, ◌≤◌, ◌+◌, length, vec_len, vec_capacity}
use Rattle.sg_crew.specs.Pools.{AllKept}
use Rattle.sg_crew.proofs.pool.collect.Given as goal

abbrev pub invariant-loop-slot : goal.invariant-loop-slot
invariant-loop-slot g l = record {
  kept : AllKept g.K.WorkerInvariant.kept l.workers.items;
  all : length l.workers.items + length l.slots.items ≡ length l.fn.slots.items;
  fits : length l.workers.items + length l.slots.items ≤ vec_capacity l.workers;
}

abbrev pub decreases-loop-slot : goal.decreases-loop-slot
decreases-loop-slot g l = vec_len l.slots
