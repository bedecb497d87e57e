use Rattle.std.proofs.Common.{◌≡◌, ◌≤◌, [], length, map, deque_len, vec_capacity}
use Rattle.sg_stores.proofs.OpenLemmas.{IsLooking}
use Rattle.sg_stores.proofs.opening.look_all.Given as goal

abbrev pub invariant-loop-disk : goal.invariant-loop-disk
invariant-loop-disk g l = record {
  looking : IsLooking l.kinds (map g.D.Disk.state l.fn.disks.items) l.opening.found.items l.opening.held.items (map g.D.Disk.state l.rest.items);
  held : length l.fn.disks.items ≤ vec_capacity l.opening.held;
  found : length l.fn.disks.items ≤ vec_capacity l.opening.found;
  room : length l.fn.disks.items ≤ vec_capacity l.opening.room;
  empty : l.opening.room.items ≡ [];
}

abbrev pub decreases-loop-disk : goal.decreases-loop-disk
decreases-loop-disk g l = deque_len l.rest
