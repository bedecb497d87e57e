-- What a write of a position leaves.
use Rattle.std.specs.Prelude.{◌≡◌, ◌≢◌, ◌⊎◌, ◌<◌, ℕ, true, false, Option, Some, None, List, length, slice_get}
use Rattle.sg_list.specs.Lists.{change}
use Rattle.sg_device.specs.Disk.{EachNow, Within}
use Rattle.sg_device.specs.Faults.{Rose}
use Rattle.sg_stable.specs.Position.{IsPosition}
use Rattle.sg_stores.specs.Stores.{StoreState, StoreGoesOn}
use Rattle.sg_counter.specs.declared.answers.Stored.{Stored}
use Rattle.sg_counter.specs.declared.answers.Stored.TheVariants.{Wrote, Unchanged, Broken}

-- there is a position store
abbrev pub IsPositionStore : Option StoreState → Type 0
IsPositionStore None = ⊥
IsPositionStore (Some store) = store.buffer ≡ None

-- each image is a store of one of two positions
abbrev pub IsOld : ℕ → ℕ → List ℕ → Type 0
IsOld old new bytes = IsPosition old bytes ⊎ IsPosition new bytes

-- the position is written: within the write each image has the old one or the new one, and after it the new one
pub record WritesPosition (old new : StoreState) (position : ℕ) : Type 0 where
  pub worked : old.failed ≡ false
  pub works : new.failed ≡ false
  pub written : new.position ≡ position
  pub within : Within old.disk new.disk (IsOld old.position position)
  pub durable : EachNow new.disk (IsPosition position)

-- the store has failed before, and stays as it is, or fails now: then each image has the old position or the new one from now on
pub record FailsToWrite (old new : StoreState) (position : ℕ) : Type 0 where
  pub fails : new.failed ≡ true
  pub unwritten : new.position ≡ old.position
  pub before : old.failed ≡ true → new ≡ old
  pub now : old.failed ≡ false → Within old.disk new.disk (IsOld old.position position)
  pub cause : old.failed ≡ false → Rose old.disk.faults new.disk.faults

-- what the write of a position comes to, by its answer
abbrev pub WritesStored : StoreState → StoreState → ℕ → Stored → Type 0
WritesStored old new position (Wrote w) = (old.position ≢ position) × (w ≡ position)
    × WritesPosition old new position
WritesStored old new position Unchanged = (old.position ≡ position) × (new ≡ old)
WritesStored old new position Broken = (old.position ≢ position) × FailsToWrite old new position

-- the write of a position of the store of that number; the others stay as they are
pub record WritesAt (olds news : List StoreState) (s position : ℕ) (answer : Stored) : Type 0 where
  pub old : StoreState
  pub new : StoreState
  pub was : slice_get olds s ≡ Some old
  pub others : news ≡ change olds s (λ _. new)
  pub kind : new.buffer ≡ old.buffer
  pub writes : WritesStored old new position answer
  pub goes : StoreGoesOn old new

-- the store is there, where there is to be one
abbrev pub IsStoreThere : List StoreState → Option ℕ → Type 0
IsStoreThere stores None = Unit {0}
IsStoreThere stores (Some s) = s < length stores

-- the position in the store of that number, 0 where there is none
abbrev pub position_of : Option StoreState → ℕ
position_of None = 0
position_of (Some store) = store.position

abbrev pub stored_in : List StoreState → Option ℕ → ℕ
stored_in stores None = 0
stored_in stores (Some s) = position_of (slice_get stores s)
