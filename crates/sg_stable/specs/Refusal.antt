-- Why a position store isn't opened.
use Rattle.sg_device.specs.Disk.{DiskState, content, WhereTold}
use Rattle.sg_device.specs.Faults.{Rose}
use Rattle.sg_stable.specs.Position.{IsPositionDamagedAt}
use Rattle.sg_stable.specs.declared.fault.StoreRefusal.{StoreRefusal}
use Rattle.sg_stable.specs.declared.fault.StoreRefusal.TheVariants.{Damage, DiskFault, NoMemory}

-- damage where it is, a fault where the count of faults rose, and never lack of memory
abbrev pub HasPositionReason : DiskState → DiskState → StoreRefusal → Type 0
HasPositionReason old new (Damage at) = WhereTold (content old) (IsPositionDamagedAt at)
HasPositionReason old new DiskFault = Rose old.faults new.faults
HasPositionReason old new NoMemory = ⊥
