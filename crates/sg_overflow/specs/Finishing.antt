-- What a finish answers.
use Rattle.std.specs.Prelude.{◌≡◌, ◌⊎◌, ◌≤◌, ℕ, ◌+◌, ◌-◌, ◌^◌, min, List, [], Some, true, false}
use Rattle.sg_device.specs.Disk.{DiskState, EachNow}
use Rattle.sg_device.specs.Faults.{Rose}
use Rattle.sg_device.specs.Outlet.{OutletState}
use Rattle.sg_overflow.specs.Line.{AreStored}
use Rattle.sg_overflow.specs.View.{OverflowView, Held, held_of, held_count}
use Rattle.sg_overflow.specs.declared.step.Stop.{Stop}
use Rattle.sg_overflow.specs.declared.step.Stop.TheVariants.{Open, Outlet as StopOutlet, Later, Store as StopStore, NoMemory}
use Rattle.sg_overflow.specs.declared.answers.Finished.{Finished}
use Rattle.sg_overflow.specs.declared.answers.Finished.TheVariants.{Empty, Outlet, Store}

-- Each image is the list of the held frames: so a later opening loads just these.
abbrev pub IsSaved : {D : Type 0} → (D → DiskState) → Held D → Type 0
IsSaved disk held = (frames : List (List ℕ)) → held_of disk held ≡ Some frames
    → EachNow (disk held.store.disk) (AreStored frames)

-- so many calls of the outlet inside failed, or it was too early for them
pub record IsInnerRefused (n : ℕ) (old new : OutletState) : Type 0 where
  pub failures : ℕ
  pub waits : ℕ
  pub number : failures + waits ≡ n
  pub failed : min (old.faults + failures) (2 ^ 64 - 1) ≤ new.faults
  pub waited : old.laters + waits ≤ new.laters

-- how all held frames are forwarded: none is held, or why some are
abbrev pub StopsAllOf : {D : Type 0} → OutletState → OutletState → Held D → Stop → Type 0
StopsAllOf old new held Open = held_count held ≡ 0
StopsAllOf old new held StopOutlet = IsInnerRefused 3 old new
StopsAllOf old new held Later = IsInnerRefused 3 old new
StopsAllOf old new held StopStore = held.store.closed ≡ true
StopsAllOf old new held NoMemory = Unit {0}

-- Empty: nothing is held. Outlet: it was refused three times, and all held frames, one at least, are in the store, which works. Store:
-- it failed, now or earlier, and frames are held.
abbrev pub FinishesOf : {D : Type 0} → (D → DiskState) → OutletState → OutletState → Held D → Held D
    → Finished → Type 0
FinishesOf disk inner inner' old new Empty = (new.stored ≡ 0) × (new.memory ≡ [])
    × (new.store.closed ≡ false → IsSaved disk new)
FinishesOf disk inner inner' old new Outlet = (1 ≤ new.stored) × (new.memory ≡ [])
    × (new.store.closed ≡ false) × IsSaved disk new × IsInnerRefused 3 inner inner'
FinishesOf disk inner inner' old new Store = (new.store.closed ≡ true)
    × ((old.store.closed ≡ true) ⊎ Rose (disk old.store.disk).faults (disk new.store.disk).faults)
    × (1 ≤ held_count new)

abbrev pub Finishes : {O D : Type 0} → (O → OutletState) → (D → DiskState) → OverflowView O D
    → OverflowView O D
    → Finished → Type 0
Finishes outlet disk old new finished = FinishesOf disk (outlet old.inner) (outlet new.inner)
    old.held new.held finished
