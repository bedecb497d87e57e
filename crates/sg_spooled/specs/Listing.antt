-- What `spool FILE` does: it says the entries of a store, and leaves it as it was.
use Rattle.std.specs.Prelude.{◌≡◌, ◌⊎◌, ◌≤◌, ℕ, false, List, [], ◌++◌, length, codes, Option, Some, None, Result, Ok, Err}
use Rattle.std.specs.List.{Contains}
use Rattle.sg_device.specs.Disk.{DiskState, content, WhereTold, Preserves, Rests}
use Rattle.sg_device.specs.Faults.{Rose}
use Rattle.sg_outside.specs.World.{WorldState, Ledger, with_opened, with_closed}
use Rattle.sg_outside.specs.declared.request.StoreSpec.{StoreSpec}
use Rattle.sg_report.specs.Entry.{entries_line}
use Rattle.sg_report.specs.Store.{unopened_line, damaged_line, failed_line}
use Rattle.sg_spool.specs.Opening.{IsRingDamagedAt}
use Rattle.sg_spool.specs.Ring.{IsList}
use Rattle.sg_stable.specs.declared.fault.StoreRefusal.{StoreRefusal}
use Rattle.sg_stable.specs.declared.fault.StoreRefusal.TheVariants.{Damage as StoreDamage, DiskFault as StoreFault, NoMemory as StoreNoMemory}
use Rattle.sg_spooled.specs.Entries.{SpooledRow, AreRowsStored, payloads_of, row_lines, IsListBegun, IsFirstBadEntry}
use Rattle.sg_output.specs.Saying.{OnlySays, SaidText}
use Rattle.sg_spooled.specs.declared.unlisted.Unlisted.{Unlisted}
use Rattle.sg_spooled.specs.declared.unlisted.Unlisted.TheVariants.{NotOpened, Damage, DiskFault, SayFault, NoMemory}

-- the store, as it was opened and as it was closed
pub record StoreUse : Type 0 where
  pub opened : DiskState
  pub closed : DiskState

-- the store of FILE, which isn't made where it is missing
abbrev pub spec_of : List ℕ → StoreSpec
spec_of file = record { name = file; create = false; size = 0 }

-- the ledger with that store opened and closed, where it was
abbrev pub with_use : Ledger StoreSpec DiskState → List ℕ → Option StoreUse
    → Ledger StoreSpec DiskState
with_use ledger file None = ledger
with_use ledger file (Some store_use) =
    with_closed (with_opened ledger (spec_of file) store_use.opened)
    store_use.closed

abbrev pub IfOpened : Option StoreUse → (StoreUse → Type 0) → Type 0
IfOpened None P = Unit {0}
IfOpened (Some store_use) P = P store_use

abbrev pub IsOpenedAnd : Option StoreUse → (StoreUse → Type 0) → Type 0
IsOpenedAnd None P = ⊥
IsOpenedAnd (Some store_use) P = P store_use

-- a store of this name was there, where the machine tells its stores
abbrev pub IsStoreFileThere : Option (List (List ℕ)) → List ℕ → Type 0
IsStoreFileThere None file = Unit {0}
IsStoreFileThere (Some names) file = Contains names file

-- Nothing was written: the bytes are as they were, and so is each image. Where the opening failed a read may give another of the images.
abbrev pub IsListingKept : Result Unit Unlisted → DiskState → DiskState → Type 0
IsListingKept (Ok done) opened closed = Preserves opened closed
IsListingKept (Err refusal) opened closed = Rests opened closed

-- what a store of bytes is damaged at, behind these entries: the bytes are no store, or a payload is no entry
abbrev pub IsListDamaged : ℕ → List SpooledRow → List ℕ → Type 0
IsListDamaged at rows bytes = ((rows ≡ []) × IsRingDamagedAt at bytes)
    ⊎ IsFirstBadEntry at rows bytes

-- When each answer comes, behind these entries. Lack of memory is free.
abbrev pub HasListingCause : WorldState → WorldState → Option StoreUse → List SpooledRow
    → Result Unit Unlisted
    → Type 0
HasListingCause old new store_use rows (Ok done) = IsOpenedAnd store_use
    (λ s. WhereTold (content s.opened) (IsList (payloads_of rows)))
HasListingCause old new store_use rows (Err NotOpened) = (store_use ≡ None) × (rows ≡ [])
    × Rose old.store_faults new.store_faults
HasListingCause old new store_use rows (Err (Damage at)) = IsOpenedAnd store_use
    (λ s. WhereTold (content s.opened) (IsListDamaged at rows))
HasListingCause old new store_use rows (Err DiskFault) = IsOpenedAnd store_use
    (λ s. Rose s.opened.faults s.closed.faults × WhereTold (content s.opened) (IsListBegun rows))
HasListingCause old new store_use rows (Err SayFault) = Rose old.say_faults new.say_faults
HasListingCause old new store_use rows (Err NoMemory) = Unit {0}

-- what is said: a line for each of these entries, and how it ended
abbrev pub SaysList : WorldState → WorldState → List SpooledRow → Result Unit Unlisted → Type 0
SaysList old new rows (Ok done) = SaidText old new (row_lines 0 rows ++ entries_line (length rows))
SaysList old new rows (Err NotOpened) =
    SaidText old new (row_lines 0 rows ++ unopened_line (codes "store") 0)
SaysList old new rows (Err (Damage at)) = SaidText old new (row_lines 0 rows ++ damaged_line 0 at)
SaysList old new rows (Err DiskFault) = SaidText old new (row_lines 0 rows ++ failed_line 0)
SaysList old new rows (Err SayFault) = Unit {0}
SaysList old new rows (Err NoMemory) = Unit {0}

-- a disk whose bytes are a store of entries
pub record IsDiskSpelled (disk : DiskState) : Type 0 where
  pub bytes : List ℕ
  pub rows : List SpooledRow
  pub told : content disk ≡ Some bytes
  pub list : IsList (payloads_of rows) bytes
  pub stored : AreRowsStored rows

-- no count of faults rose
pub record ListsUntroubled (old new : WorldState) (store_use : Option StoreUse) : Type 0 where
  pub open' : ¬ Rose old.store_faults new.store_faults
  pub say : ¬ Rose old.say_faults new.say_faults
  pub disk : IfOpened store_use (λ s. ¬ Rose s.opened.faults s.closed.faults)

-- all was listed, or memory ran out
abbrev pub WasListed : Result Unit Unlisted → Type 0
WasListed (Ok done) = Unit {0}
WasListed (Err NoMemory) = Unit {0}
WasListed (Err NotOpened) = ⊥
WasListed (Err (Damage at)) = ⊥
WasListed (Err DiskFault) = ⊥
WasListed (Err SayFault) = ⊥

-- why a store wasn't opened as a disk-buffer's
abbrev pub unlisted_for : StoreRefusal → Unlisted
unlisted_for (StoreDamage at) = Damage at
unlisted_for StoreFault = DiskFault
unlisted_for StoreNoMemory = NoMemory

-- the part that has the store open, which comes back
pub record ListsBy (old new : WorldState) (opened closed : DiskState)
    (result : Result Unit Unlisted) (rows : List SpooledRow) : Type 0 where
  pub says : OnlySays old new
  pub kept : IsListingKept result opened closed
  pub later : opened.faults ≤ closed.faults
  pub stored : AreRowsStored rows
  pub cause : HasListingCause old new (Some (record { opened = opened; closed = closed })) rows
      result
  pub said : SaysList old new rows result

abbrev pub ListsStore : WorldState → WorldState → (opened closed : DiskState) → Result Unit Unlisted
    → Type 0
ListsStore old new opened closed result =
    (rows : List SpooledRow) × ListsBy old new opened closed result rows

-- the store of FILE was listed up to these entries
pub record SpoolsBy (old new : WorldState) (file : List ℕ) (result : Result Unit Unlisted)
    (store_use : Option StoreUse) (rows : List SpooledRow) : Type 0 where
  -- nothing but that store was opened, and it was closed; no store was made, and no file changed
  pub state : new ≡ record old {
    stores = with_use old.stores file store_use;
    store_faults = new.store_faults;
    say_faults = new.say_faults;
    said = new.said;
  }
  pub store_later : old.store_faults ≤ new.store_faults
  pub say_later : old.say_faults ≤ new.say_faults
  pub there : IfOpened store_use (λ s. IsStoreFileThere old.store_names file)
  pub kept : IfOpened store_use
      (λ s. IsListingKept result s.opened s.closed × (s.opened.faults ≤ s.closed.faults))
  pub stored : AreRowsStored rows
  pub cause : HasListingCause old new store_use rows result
  pub said : SaysList old new rows result
  -- a store of entries and no trouble give success, where memory is there
  pub complete : ListsUntroubled old new store_use
      → IfOpened store_use (λ s. IsDiskSpelled s.opened)
      → WasListed result

abbrev pub Spools : WorldState → WorldState → List ℕ → Result Unit Unlisted → Type 0
Spools old new file result = (store_use : Option StoreUse)
    × ((rows : List SpooledRow) × SpoolsBy old new file result store_use rows)
