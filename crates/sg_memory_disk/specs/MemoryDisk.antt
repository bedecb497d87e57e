-- A disk in memory.
use Rattle.std.specs.Prelude.{ℕ, List, [], Some}
use Rattle.sg_device.specs.Disk.{DiskState, fresh_log}
use Rattle.sg_memory_disk.specs.DiskChange.{events_of}
use Rattle.sg_memory_disk.specs.declared.disk.MemoryDisk.{MemoryDisk}

-- what the disk tells
abbrev pub disk_of : MemoryDisk → DiskState
disk_of disk = record {
  told = Some (record { first = disk.first.items; events = events_of [] disk.changes.items });
  faults = disk.calls.faults;
}

-- what a disk tells of which nothing happened yet
abbrev pub fresh_disk : List ℕ → DiskState
fresh_disk bytes = record { told = Some (fresh_log bytes); faults = 0 }
