use Rattle.std.proofs.Common.{◌≡◌, ◌≤◌, [], take}
use Rattle.sg_device.specs.Disk.{bytes_after}
use Rattle.sg_memory_disk.specs.DiskChange.{events_of}
use Rattle.sg_memory_disk.specs.Pick.{picked, unsynced}
use Rattle.sg_memory_disk.proofs.disk.MemoryDisk.image.Given as goal

abbrev pub invariant-loop-change : goal.invariant-loop-change
invariant-loop-change l = record {
  picked : l.image.items ≡ picked l.picks l.self.first.items (events_of [] (take l.change-index l.self.changes.items));
  read : l.bytes.items ≡ bytes_after l.self.first.items (events_of [] (take l.change-index l.self.changes.items));
  counted : l.number ≡ unsynced (events_of [] (take l.change-index l.self.changes.items));
  few : l.number ≤ l.change-index;
}
