-- The opening of the stores.
use Rattle.std.specs.Prelude.{◌≡◌, ◌⊎◌, ◌≤◌, ◌<◌, ◌^◌, ℕ, Bool, Some, None, is_some, true, false, List, [], length, map, slice_get}
use Rattle.sg_device.specs.Disk.{DiskState, content, WhereTold, Durable, Preserves, Rests, Elapses, Within}
use Rattle.sg_device.specs.Faults.{Rose}
use Rattle.sg_codec.specs.declared.kept.Kept.{Kept as Coded}
use Rattle.sg_stable.specs.Position.{IsPosition, IsPositionDamagedAt as IsDamagedPosition}
use Rattle.sg_stable.specs.declared.fault.StoreRefusal.{StoreRefusal}
use Rattle.sg_stable.specs.declared.fault.StoreRefusal.TheVariants.{Damage as StoreDamage, DiskFault as StoreFault, NoMemory as StoreNoMemory}
use Rattle.sg_spool.specs.Opening.{IsRingDamagedAt as IsDamagedSpool}
use Rattle.sg_spool.specs.Ring.{Entries, IsLaid}
use Rattle.sg_spool.specs.declared.places.Places.{Places}
use Rattle.sg_buffer.specs.Entries.{IsListOf}
use Rattle.sg_buffer.specs.Found.{IsFirstNoEntry}
use Rattle.sg_buffer.specs.Heads.{head_of}
use Rattle.sg_buffer.specs.declared.found.BufferEntries.{BufferEntries}
use Rattle.sg_machine.specs.Runs.{BufferedEntry}
use Rattle.sg_sinks.specs.Fitting.{space}
use Rattle.sg_stores.specs.Stores.{StoreState, HoldsEntries, HasBufferSize, coded, length_of}
use Rattle.sg_stores.specs.declared.kind.StoreKind.{StoreKind}
use Rattle.sg_stores.specs.declared.kind.StoreKind.TheVariants.{Position, Buffer}
use Rattle.sg_stores.specs.declared.answers.CoreRefusal.{CoreRefusal}
use Rattle.sg_stores.specs.declared.answers.CoreRefusal.TheVariants.{Damage, DiskFault, NoMemory}

-- What the bytes of a store stand for, and where they are damaged.

abbrev pub IsStore : StoreKind → List ℕ → Type 0
IsStore Position bytes = (position : ℕ) × IsPosition position bytes
IsStore (Buffer capacity) bytes = (entries : List Coded) × IsListOf entries bytes

-- the bytes are a list of payloads, and at this gate stands the first that is no entry
pub record HasNoEntry (at : ℕ) (bytes : List ℕ) : Type 0 where
  pub places : Places
  pub payloads : Entries
  pub laid : IsLaid places.jump places.head places.end payloads bytes
  pub none : IsFirstNoEntry places at bytes

abbrev pub IsDamagedStore : StoreKind → ℕ → List ℕ → Type 0
IsDamagedStore Position at bytes = IsDamagedPosition at bytes
IsDamagedStore (Buffer capacity) at bytes = IsDamagedSpool at bytes ⊎ HasNoEntry at bytes

-- Stores that were opened.

-- a position store: it has the position that stood on this disk, and is durable; no fault was counted
pub record IsOpenedPosition (disk : DiskState) (store : StoreState) : Type 0 where
  pub position : WhereTold (content disk) (IsPosition store.position)
  pub buffer : store.buffer ≡ None
  pub works : store.failed ≡ false
  pub durable : Durable store.disk
  pub preserves : Preserves disk store.disk
  pub well : store.disk.faults ≡ disk.faults

-- a disk-buffer: it has the entries that stood on this disk, all of them in format 2; no fault was counted
pub record IsRecovered (disk : DiskState) (capacity : ℕ) (found : BufferEntries)
    (store : StoreState) : Type 0 where
  pub entries : List BufferedEntry
  pub position : store.position ≡ 0
  pub works : store.failed ≡ false
  pub told : WhereTold (content disk) (IsListOf (map coded entries))
  pub heads : found.heads.items ≡ map (λ (kept : BufferedEntry). head_of (coded kept)) entries
  pub holds : HoldsEntries store entries []
  pub sized : HasBufferSize capacity (map length_of entries) store.buffer
  pub small : space (map length_of entries) < 2 ^ 63
  pub well : store.disk.faults ≡ disk.faults
  -- its disk once it was made durable; from then on each image has these entries
  pub synced : DiskState
  pub preserves : Preserves disk synced
  pub durable : Durable synced
  pub within : Within synced store.disk (IsListOf (map coded entries))

abbrev pub IsOpenedAs : StoreKind → DiskState → BufferEntries → StoreState → Type 0
IsOpenedAs Position disk found store = IsOpenedPosition disk store × (found.heads.items ≡ [])
IsOpenedAs (Buffer capacity) disk found store = IsRecovered disk capacity found store

-- A flag that is set exactly where a call on the disk has answered a fault: while it isn't, the count of faults stands as it did, and
-- where it is, that rose.
pub record FailsByFaults (failed : Bool) (old new : DiskState) : Type 0 where
  pub works : failed ≡ false → new.faults ≡ old.faults
  pub fails : failed ≡ true → Rose old.faults new.faults

-- so it is with each of these stores since its disk was as it is here
abbrev pub AllFailByFaults : List DiskState → List StoreState → Type 0
AllFailByFaults disks stores =
    (s : ℕ) (disk : DiskState) (store : StoreState) → slice_get disks s ≡ Some disk
    → slice_get stores s ≡ Some store → FailsByFaults store.failed disk store.disk

-- the stores of these kinds were opened on these disks
pub record AreOpened (kinds : List StoreKind) (disks : List DiskState) (founds : List BufferEntries)
    (stores : List StoreState) : Type 0 where
  pub count : length stores ≡ length disks
  pub looked : length founds ≡ length disks
  pub each : (s : ℕ) (kind : StoreKind) (disk : DiskState) (found : BufferEntries)
      (store : StoreState)
      → slice_get kinds s ≡ Some kind → slice_get disks s ≡ Some disk
      → slice_get founds s ≡ Some found → slice_get stores s ≡ Some store
      → IsOpenedAs kind disk found store

-- Stores that weren't.

-- both stand for this list of entries
pub record HaveOneList (old new : List ℕ) : Type 0 where
  pub entries : List Coded
  pub was : IsListOf entries old
  pub is : IsListOf entries new

abbrev pub HasSameList : List ℕ → List ℕ → Type 0
HasSameList old new = (new ≡ old) ⊎ HaveOneList old new

-- No image of another list is added, and what was told is told on.
pub record RestsInList (old new : DiskState) : Type 0 where
  pub tells : is_some (content new) ≡ is_some (content old)
  pub still : Elapses HasSameList old new

-- no image is added; in a disk-buffer none of another list is
abbrev pub KeepsImages : StoreKind → DiskState → DiskState → Type 0
KeepsImages Position old new = Rests old new
KeepsImages (Buffer capacity) old new = RestsInList old new

-- the disks come back in order, and hold what they held
pub record ArePreserved (kinds : List StoreKind) (olds news : List DiskState) : Type 0 where
  pub count : length news ≡ length olds
  pub keeps : (s : ℕ) (kind : StoreKind) (old new : DiskState) → slice_get kinds s ≡ Some kind
      → slice_get olds s ≡ Some old → slice_get news s ≡ Some new → KeepsImages kind old new
  pub later : (s : ℕ) (old new : DiskState) → slice_get olds s ≡ Some old
      → slice_get news s ≡ Some new → old.faults ≤ new.faults

-- those before this number hold stores of their kinds
abbrev pub AreStoresBefore : ℕ → List StoreKind → List DiskState → Type 0
AreStoresBefore count kinds disks =
    (s : ℕ) (kind : StoreKind) (disk : DiskState) → s < count → slice_get kinds s ≡ Some kind
    → slice_get disks s ≡ Some disk → WhereTold (content disk) (IsStore kind)

-- the lowest damaged store: this one, at this place
pub record IsLowestDamaged (kinds : List StoreKind) (disks : List DiskState)
    (s at : ℕ) : Type 0 where
  pub kind : StoreKind
  pub disk : DiskState
  pub is_kind : slice_get kinds s ≡ Some kind
  pub is_disk : slice_get disks s ≡ Some disk
  pub damaged : WhereTold (content disk) (IsDamagedStore kind at)
  pub before : AreStoresBefore s kinds disks

-- a call on the disk of this store has failed, and no store before it is damaged
pub record HasFaulted (kinds : List StoreKind) (olds news : List DiskState) (s : ℕ) : Type 0 where
  pub old : DiskState
  pub new : DiskState
  pub was : slice_get olds s ≡ Some old
  pub now : slice_get news s ≡ Some new
  pub rose : Rose old.faults new.faults
  pub before : AreStoresBefore s kinds olds

-- lack of memory is free
abbrev pub HasOpeningReason : List StoreKind → List DiskState → List DiskState → CoreRefusal
    → Type 0
HasOpeningReason kinds olds news (Damage s at) = IsLowestDamaged kinds olds s at
HasOpeningReason kinds olds news (DiskFault s) = HasFaulted kinds olds news s
HasOpeningReason kinds olds news NoMemory = Unit {0}

-- why they weren't opened
pub record AreStoresRefused (kinds : List StoreKind) (olds news : List DiskState)
    (refusal : CoreRefusal) : Type 0 where
  pub preserved : ArePreserved kinds olds news
  pub reason : HasOpeningReason kinds olds news refusal

-- what the refusal of the store of that number is to the core
abbrev pub refusal_of : ℕ → StoreRefusal → CoreRefusal
refusal_of s (StoreDamage at) = Damage s at
refusal_of s StoreFault = DiskFault s
refusal_of s StoreNoMemory = NoMemory
