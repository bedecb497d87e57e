-- What each call that changes a disk-buffer keeps, whatever it answers.
use Rattle.std.specs.Prelude.{◌≡◌, ℕ, ◌≤◌, true, false, None, Result, OnOk, IfOk}
use Rattle.sg_device.specs.Disk.{DiskState, Moves, Within, Elapses, HasCause}
use Rattle.sg_device.specs.Faults.{Rose}
use Rattle.sg_spool.specs.Lists.{IsEitherList}
use Rattle.sg_spool.specs.Ring.{Entries}
use Rattle.sg_spool.specs.Rows.{listed}
use Rattle.sg_spool.specs.Steps.{Spares}
use Rattle.sg_spool.specs.View.{View, RingHolds, IsCompact, IsCompactIn}
use Rattle.sg_spool.specs.declared.rows.Rows.{Rows}
use Rattle.sg_stable.specs.declared.cell.Pair.{Pair}

-- What outlives a call: the capacity, and the images of past moments. A closed one stays as it is. The count of faults never
-- falls, and one that isn't closed left it as it was; one that is closed has its cause, which is that the count rose since any
-- moment at which it was open.
pub record SpoolLasts {D : Type 0} (state : D → DiskState) (old new : View D) : Type 0 where
  pub capacity : new.capacity ≡ old.capacity
  pub moves : Moves (state old.disk) (state new.disk)
  pub untouched : old.closed ≡ true → new ≡ old
  pub later : (state old.disk).faults ≤ (state new.disk).faults
  pub works : new.closed ≡ false → (state new.disk).faults ≡ (state old.disk).faults
  pub blames : (f : ℕ) → f ≤ (state old.disk).faults
      → (old.closed ≡ true → Rose f (state old.disk).faults) → new.closed ≡ true
      → Rose f (state new.disk).faults

-- What a crash leaves: the list, or what the call makes of the list and of what is staged. Of a file that is within its bound
-- each image is, and it stays so.
pub record LeavesImages {D : Type 0} (state : D → DiskState) (old new : View D)
    (step : Entries → Entries → Entries) : Type 0 where
  pub within : (list staged : Entries) → RingHolds state old list staged
      → Within (state old.disk) (state new.disk) (IsEitherList list (step list staged))
  pub short : IsCompact state old
      → Within (state old.disk) (state new.disk) (IsCompactIn old.capacity)
  pub compact : IsCompact state old → IsCompact state new

-- What a call that only reads keeps: all but the first payload, where it is kept, and whether a fault closed it.
pub record OnlyReadsSpool {D : Type 0} (state : D → DiskState) (old new : View D) : Type 0 where
  pub told : (state new.disk).told ≡ (state old.disk).told
  pub rows : new.rows ≡ old.rows
  pub lasts : SpoolLasts state old new

-- an open disk-buffer of this capacity, with nothing staged and the first payload unread
pub record IsOpenedSpool {D : Type 0} (capacity : ℕ) (view : View D) : Type 0 where
  pub opened : view.closed ≡ false
  pub limit : view.capacity ≡ capacity
  pub rows : view.rows ≡ listed view.rows.list view.rows.count
  pub unread : view.front ≡ None

-- Ok: the cell is open. A fault has its cause.
pub record LeavesOpen {T E : Type 0} (cell : Pair) (before now : ℕ)
    (result : Result T E) : Type 0 where
  pub cell_open : OnOk result (cell.closed ≡ false)
  pub cause : HasCause before now result

-- the bytes that the list uses stay, and so do its places
pub record SparesList {E : Type 0} (rows : Rows) (old new : DiskState)
    (result : Result Rows E) : Type 0 where
  pub images : Elapses (Spares rows.list.jump rows.list.head rows.list.end) old new
  pub list : IfOk result (λ next. next.list ≡ rows.list)
