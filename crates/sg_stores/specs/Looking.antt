-- Stores while they are opened: first all are looked through, and then older entries are spelled anew.
use Rattle.std.specs.Prelude.{◌≡◌, ◌≤◌, ◌<◌, ◌^◌, ℕ, Bool, false, Option, Some, None, List, [], length, slice_get, Result, Ok, Err}
use Rattle.sg_list.specs.Lists.{change}
use Rattle.sg_device.specs.Disk.{DiskState, content, WhereTold, Durable, Preserves, Rests}
use Rattle.sg_device.specs.Faults.{Rose}
use Rattle.sg_codec.specs.declared.kept.Kept.{Kept as Coded}
use Rattle.sg_stable.specs.declared.fault.StoreRefusal.{StoreRefusal}
use Rattle.sg_stable.specs.declared.fault.StoreRefusal.TheVariants.{Damage, DiskFault, NoMemory}
use Rattle.sg_spool.specs.Ring.{Entries}
use Rattle.sg_spool.specs.Rows.{listed}
use Rattle.sg_spool.specs.View.{View, HoldsAt}
use Rattle.sg_buffer.specs.Found.{FindsEntries}
use Rattle.sg_buffer.specs.declared.found.BufferEntries.{BufferEntries}
use Rattle.sg_stores.specs.Stores.{BufferState, StoreState}
use Rattle.sg_stores.specs.Opening.{IsStore, IsDamagedStore, IsOpenedPosition, IsOpenedAs, KeepsImages}
use Rattle.sg_stores.specs.declared.kind.StoreKind.{StoreKind}
use Rattle.sg_stores.specs.declared.kind.StoreKind.TheVariants.{Position, Buffer}
use Rattle.sg_buffer.specs.Renewing.{RenewReason}

-- a spool is open unless a call on it has failed; its capacity is a number of 64 bits
pub record IsFlagged {D : Type 0} (failed : Bool) (view : View D) : Type 0 where
  pub works : failed ≡ false → view.closed ≡ false
  pub limit : view.capacity < 2 ^ 64

abbrev pub IsUnstaged : Option BufferState → Type 0
IsUnstaged None = Unit {0}
IsUnstaged (Some buffer) = buffer.rows.staged ≡ 0

-- a disk-buffer of this capacity, whose entries were found
pub record IsLookedBuffer (disk : DiskState) (capacity : ℕ) (found : BufferEntries)
    (store : StoreState) : Type 0 where
  pub position : store.position ≡ 0
  pub works : store.failed ≡ false
  pub preserves : Preserves disk store.disk
  pub durable : Durable store.disk
  pub well : store.disk.faults ≡ disk.faults
  pub buffer : BufferState
  pub there : store.buffer ≡ Some buffer
  pub limit : buffer.capacity ≡ capacity
  pub rows : buffer.rows ≡ listed buffer.rows.list buffer.rows.count
  pub entries : List Coded
  pub finds : FindsEntries store.disk buffer.rows found entries
  pub payloads : Entries
  pub holds : HoldsAt store.disk buffer.rows payloads []

abbrev pub IsLookedAs : StoreKind → DiskState → BufferEntries → StoreState → Type 0
IsLookedAs Position disk found store = IsOpenedPosition disk store × (found.heads.items ≡ [])
IsLookedAs (Buffer capacity) disk found store = IsLookedBuffer disk capacity found store

-- damage where it is, a fault where the count of faults rose; lack of memory is free
abbrev pub OpenReason : StoreKind → DiskState → DiskState → StoreRefusal → Type 0
OpenReason kind old new (Damage at) = WhereTold (content old) (IsDamagedStore kind at)
OpenReason kind old new DiskFault = Rose old.faults new.faults
OpenReason kind old new NoMemory = Unit {0}

-- no store of this kind was opened; no image is added
pub record IsUnlooked (kind : StoreKind) (old new : DiskState)
    (refusal : StoreRefusal) : Type 0 where
  pub rests : Rests old new
  pub later : old.faults ≤ new.faults
  pub reason : OpenReason kind old new refusal

-- a store that was looked through wasn't spelled anew; no image of another list is added
pub record IsUnrenewed (kind : StoreKind) (old new : DiskState)
    (refusal : StoreRefusal) : Type 0 where
  pub keeps : KeepsImages kind old new
  pub later : old.faults ≤ new.faults
  pub store : WhereTold (content old) (IsStore kind)
  pub reason : RenewReason old new refusal

-- a store that works, with nothing staged
abbrev pub CanRenew : Option StoreState → Type 0
CanRenew None = ⊥
CanRenew (Some store) = (store.failed ≡ false) × IsUnstaged store.buffer

-- Ok: the store is open. Else it isn't, and its disk holds what it held.
abbrev pub Renews : StoreState → StoreState → BufferEntries → Result Unit StoreRefusal → Type 0
Renews old new found (Ok done) = (kind : StoreKind) (disk : DiskState)
    → IsLookedAs kind disk found old → IsOpenedAs kind disk found new
Renews old new found (Err refusal) = (kind : StoreKind) (disk : DiskState)
    → IsLookedAs kind disk found old → IsUnrenewed kind disk new.disk refusal

-- the same of the store of that number; the others stay as they are
pub record RenewsAt (olds news : List StoreState) (s : ℕ) (found : BufferEntries)
    (result : Result Unit StoreRefusal) : Type 0 where
  pub old : StoreState
  pub new : StoreState
  pub was : slice_get olds s ≡ Some old
  pub others : news ≡ change olds s (λ _. new)
  pub renews : Renews old new found result

abbrev pub CanRenewAll : List StoreState → Type 0
CanRenewAll stores = (s : ℕ) (store : StoreState) → slice_get stores s ≡ Some store
    → CanRenew (Some store)

-- of these stores so many are open, and the others were looked through
pub record AreOpening (count : ℕ) (kinds : List StoreKind) (disks : List DiskState)
    (founds : List BufferEntries) (stores : List StoreState) : Type 0 where
  pub many : length stores ≡ length disks
  pub looked : length founds ≡ length disks
  pub known : length kinds ≡ length disks
  pub opened : (s : ℕ) (kind : StoreKind) (disk : DiskState) (found : BufferEntries)
      (store : StoreState)
      → s < count → slice_get kinds s ≡ Some kind → slice_get disks s ≡ Some disk
      → slice_get founds s ≡ Some found → slice_get stores s ≡ Some store
      → IsOpenedAs kind disk found store
  pub left : (s : ℕ) (kind : StoreKind) (disk : DiskState) (found : BufferEntries)
      (store : StoreState)
      → count ≤ s → slice_get kinds s ≡ Some kind → slice_get disks s ≡ Some disk
      → slice_get founds s ≡ Some found → slice_get stores s ≡ Some store
      → IsLookedAs kind disk found store
