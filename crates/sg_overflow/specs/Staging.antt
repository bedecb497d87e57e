-- Frames of memory that are staged in the store.
use Rattle.std.specs.Prelude.{◌≡◌, ◌<◌, ℕ, ◌+◌, ◌-◌, ◌^◌, min, List, [], ◌++◌, take, map, true, false}
use Rattle.sg_device.specs.Disk.{DiskState}
use Rattle.sg_spool.specs.Ring.{Entries, IsList}
use Rattle.sg_spool.specs.Rows.{total}
use Rattle.sg_spool.specs.View.{View as Store, RingHolds}
use Rattle.sg_overflow.specs.Payload.{tagged}
use Rattle.sg_overflow.specs.declared.step.Stop.{Stop}
use Rattle.sg_overflow.specs.declared.step.Stop.TheVariants.{Open, Outlet, Later, Store as StoreFailed, NoMemory}

-- the bytes stand for this list and some of the first of these frames behind it
pub record IsListWith (list : Entries) (frames : List (List ℕ)) (bytes : List ℕ) : Type 0 where
  pub count : ℕ
  pub is : IsList (list ++ map tagged (take count frames)) bytes

-- the payloads of so many of the first frames stand behind the list, or are staged there
pub record HoldsFirst {D : Type 0} (disk : D → DiskState) (store : Store D) (list : Entries)
    (frames : List (List ℕ)) (count : ℕ) : Type 0 where
  pub front : Entries
  pub staged : Entries
  pub both : front ++ staged ≡ map tagged (take count frames)
  pub holds : RingHolds disk store (list ++ front) staged

-- so many of the first frames are staged, and the store works
pub record IsStagedFirst {D : Type 0} (disk : D → DiskState) (old new : Store D)
    (frames : List (List ℕ)) (count : ℕ) : Type 0 where
  pub works : new.closed ≡ false
  pub total : total new.rows ≡ min (total old.rows + count) (2 ^ 64 - 1)
  pub holds : (list : Entries) → RingHolds disk old list [] → HoldsFirst disk new list frames count

abbrev pub StagesFirst : {D : Type 0} → (D → DiskState) → Store D → Store D → List (List ℕ) → ℕ → Stop
    → Type 0
StagesFirst disk old new frames count Open = IsStagedFirst disk old new frames count
StagesFirst disk old new frames count Outlet = ⊥
StagesFirst disk old new frames count Later = ⊥
StagesFirst disk old new frames count StoreFailed = (new.closed ≡ true) × (new.rows.staged ≡ 0)
StagesFirst disk old new frames count NoMemory = IsStagedFirst disk old new frames count

-- all are staged, or why not
abbrev pub StageStop : ℕ → ℕ → Stop → Type 0
StageStop n count Open = count ≡ n
StageStop n count Outlet = ⊥
StageStop n count Later = ⊥
StageStop n count StoreFailed = count < n
StageStop n count NoMemory = count < n

-- the payloads of so many of the first frames stand behind the list, nothing is staged, and the store works
pub record IsWrittenFirst {D : Type 0} (disk : D → DiskState) (old new : Store D)
    (frames : List (List ℕ)) (count : ℕ) : Type 0 where
  pub works : new.closed ≡ false
  pub unstaged : new.rows.staged ≡ 0
  pub number : new.rows.count ≡ min (total old.rows + count) (2 ^ 64 - 1)
  pub holds : (list : Entries) → RingHolds disk old list []
      → RingHolds disk new (list ++ map tagged (take count frames)) []

abbrev pub WritesFirst : {D : Type 0} → (D → DiskState) → Store D → Store D → List (List ℕ) → ℕ → Stop
    → Type 0
WritesFirst disk old new frames count Open = IsWrittenFirst disk old new frames count
WritesFirst disk old new frames count Outlet = ⊥
WritesFirst disk old new frames count Later = ⊥
WritesFirst disk old new frames count StoreFailed = (new.closed ≡ true) × (new.rows.staged ≡ 0)
WritesFirst disk old new frames count NoMemory = IsWrittenFirst disk old new frames count
