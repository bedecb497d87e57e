use Rattle.std.proofs.Common.{◌≡◌, ◌+◌, ◌++◌, length, map, deque_len, vec_capacity}
use Rattle.sg_stores.specs.Stores.{StoreState}
use Rattle.sg_stores.proofs.disks.put_stores.Given as goal

abbrev pub invariant-loop-store : goal.invariant-loop-store
invariant-loop-store g l = record {
  disks : map g.D.Disk.state l.disks.items ++ map (λ (s : StoreState). s.disk) l.rest.items ≡ map (λ (s : StoreState). s.disk) l.fn.held.items;
  count : length l.disks.items + length l.rest.items ≡ length l.fn.held.items;
  capacity : vec_capacity l.disks ≡ vec_capacity l.fn.disks;
}

abbrev pub decreases-loop-store : goal.decreases-loop-store
decreases-loop-store g l = deque_len l.rest
