use Rattle.std.proofs.Common.{◌≡◌, [], take}
use Rattle.sg_memory_disk.specs.DiskChange.{events_of}
use Rattle.sg_memory_disk.proofs.disk_copy.copies.Given as goal

abbrev pub invariant-loop-change : goal.invariant-loop-change
invariant-loop-change l = events_of [] l.copies.items ≡ events_of [] (take l.change-index l.changes)
