-- What an opening finds on its disk, and how it leaves it.
use Rattle.std.specs.Prelude.{◌≡◌, ◌≤◌, false}
use Rattle.sg_device.specs.Disk.{DiskState, content, Preserves, Rests, Durable, WhereTold}
use Rattle.sg_stable.specs.Cell.{HasCell}
use Rattle.sg_stable.specs.Position.{IsPosition}
use Rattle.sg_stable.specs.declared.cell.Pair.{Pair}

-- the open cell of the position store that stands on this disk
pub record FindsCell (disk : DiskState) (cell : Pair) : Type 0 where
  pub position : WhereTold (content disk) (IsPosition cell.value)
  pub has_cell : WhereTold (content disk) (HasCell cell.selector cell.value)
  pub opened : cell.closed ≡ false

-- the disk was synced, and nothing changed: all that a read gives is durable, and no fault was counted
pub record IsSynced (old new : DiskState) : Type 0 where
  pub durable : Durable new
  pub preserves : Preserves old new
  pub well : new.faults ≡ old.faults

-- Nothing was written: no image is added, but a read may give another of them. The count of faults never falls.
pub record IsUnwritten (old new : DiskState) : Type 0 where
  pub rests : Rests old new
  pub later : old.faults ≤ new.faults
