-- What calls of a disk in memory leave that fail.
use Rattle.std.specs.Prelude.{◌≡◌, ◌⊎◌, ℕ, List}
use Rattle.std.specs.Option.{option_map}
use Rattle.sg_device.specs.Disk.{Tore, Lost, IsImage, with_event}
use Rattle.sg_memory_disk.specs.declared.disk.MemoryDisk.{MemoryDisk}
use Rattle.sg_memory_disk.specs.MemoryDisk.{disk_of}

-- a write of n bytes left nothing, or a torn write
abbrev pub Tears : MemoryDisk → MemoryDisk → ℕ → ℕ → Type 0
Tears old new at n = ((disk_of new).told ≡ (disk_of old).told)
    ⊎ ((left : List ℕ)
    × ((disk_of new).told ≡ option_map (with_event (Tore at n left)) (disk_of old).told))

-- a sync left all as it was, or one of the images to be read
abbrev pub Loses : MemoryDisk → MemoryDisk → Type 0
Loses old new = ((disk_of new).told ≡ (disk_of old).told) ⊎ ((left : List ℕ)
    × IsImage (disk_of old) left
    × ((disk_of new).told ≡ option_map (with_event (Lost left)) (disk_of old).told))
