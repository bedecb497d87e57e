-- A law of disks in memory.
use Rattle.std.proofs.Common.{◌≡◌, ◌<◌, ◌^◌, ◌∙◌, subst, ℕ, List, length}
use Rattle.sg_device.specs.Disk.{IsShort}
use Rattle.sg_memory_disk.specs.declared.disk.MemoryDisk.{MemoryDisk}
use Rattle.sg_memory_disk.specs.MemoryDisk.{disk_of}

pub is_short : (disk : MemoryDisk) → IsShort (disk_of disk)
is_short disk bytes is = let same : disk.bytes.items ≡ bytes = disk.reads
    ∙ (let e : _ ≡ bytes = cc in e) in subst (λ (l : List ℕ). length l < 2 ^ 63) same disk.short
