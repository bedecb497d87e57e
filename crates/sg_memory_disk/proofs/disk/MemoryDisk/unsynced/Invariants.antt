use Rattle.std.proofs.Common.{◌≡◌, ◌≤◌, [], take}
use Rattle.sg_memory_disk.specs.DiskChange.{events_of}
use Rattle.sg_memory_disk.specs.Pick.{unsynced}
use Rattle.sg_memory_disk.proofs.disk.MemoryDisk.unsynced.Given as goal

abbrev pub invariant-loop-change : goal.invariant-loop-change
invariant-loop-change l = record {
  counted : l.number ≡ unsynced (events_of [] (take l.change-index l.self.changes.items));
  few : l.number ≤ l.change-index;
}
