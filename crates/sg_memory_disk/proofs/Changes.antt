-- One change more.
use Rattle.std.proofs.Common.{◌≡◌, List, [], ◌∷◌, ◌++◌, refl}
use Rattle.sg_device.specs.Disk.{DiskEvent}
use Rattle.sg_memory_disk.specs.DiskChange.{event_of, events_of}
use Rattle.sg_memory_disk.specs.declared.disk_change.DiskChange.{DiskChange}

pub events_of-push : (earlier : List DiskEvent) (changes : List DiskChange) (change : DiskChange) → events_of earlier (changes ++ change ∷ []) ≡ event_of change ∷ events_of earlier changes
events_of-push earlier [] change = refl
events_of-push earlier (x ∷ changes) change = events_of-push (event_of x ∷ earlier) changes change
