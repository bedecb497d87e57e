-- What happened to a disk in memory.
use Rattle.std.specs.Prelude.{List, [], ◌∷◌}
use Rattle.sg_device.specs.Disk.{DiskEvent, Wrote, Tore, Synced, Lost}
use Rattle.sg_memory_disk.specs.declared.disk_change.DiskChange.{DiskChange}
use Rattle.sg_memory_disk.specs.declared.disk_change.DiskChange.TheVariants.{Wrote as HasWritten, Tore as HasTorn, Synced as HasSynced, Lost as HasLost}

abbrev pub event_of : DiskChange → DiskEvent
event_of (HasWritten written) = Wrote written.at written.bytes.items
event_of (HasTorn torn) = Tore torn.at torn.size torn.bytes.items
event_of HasSynced = Synced
event_of (HasLost left) = Lost left.items

-- these events, the newest first, and behind them what came before
abbrev pub events_of : List DiskEvent → List DiskChange → List DiskEvent
events_of earlier [] = earlier
events_of earlier (change ∷ changes) = events_of (event_of change ∷ earlier) changes
