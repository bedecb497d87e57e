use Rattle.std.proofs.Common.{◌≡◌, ◌+◌, ◌++◌, ◌≤◌, length, deque_len, vec_capacity}
use Rattle.sg_stores.proofs.disks.put_rest.Given as goal

abbrev pub invariant-loop-disk : goal.invariant-loop-disk
invariant-loop-disk g l = record {
  disks : l.disks.items ++ l.rest.items ≡ l.fn.disks.items ++ l.fn.rest.items;
  capacity : length l.disks.items + length l.rest.items ≤ vec_capacity l.disks;
}

abbrev pub decreases-loop-disk : goal.decreases-loop-disk
decreases-loop-disk g l = deque_len l.rest
