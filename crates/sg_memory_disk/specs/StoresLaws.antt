-- A law of open stores in memory.
use Rattle.sg_device.specs.Disk.{IsShort}
use Rattle.sg_memory_disk.specs.Stores.{store_of}
use Rattle.sg_memory_disk.specs.MemoryDiskLaws.{is_short as disk_is_short}
use Rattle.sg_memory_disk.specs.declared.stores.MemoryStore.{MemoryStore}

pub is_short : (store : MemoryStore) → IsShort (store_of store)
is_short store = disk_is_short store.disk
