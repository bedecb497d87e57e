-- What the calls of what is held come to.
use Rattle.std.specs.Prelude.{◌≡◌, ◌≤◌, ◌<◌, ℕ, ◌+◌, ◌-◌, List, [], length, take, drop, is_some, Some, Bool, true, false}
use Rattle.sg_device.specs.Disk.{DiskState, content, WhereTold, Within}
use Rattle.sg_device.specs.Faults.{Rose}
use Rattle.sg_device.specs.Outlet.{OutletState}
use Rattle.sg_spool.specs.Calls.{SpoolLasts}
use Rattle.sg_spool.specs.Places.{live}
use Rattle.sg_spool.specs.Ring.{Entries, IsList}
use Rattle.sg_spool.specs.declared.answers.RewriteRefusal.{RewriteRefusal}
use Rattle.sg_spool.specs.declared.answers.RewriteRefusal.TheVariants.{DiskFault as ReadFault, NoMemory as ReadNoMemory}
use Rattle.sg_overflow.specs.Memory.{size_of}
use Rattle.sg_overflow.specs.Payload.{frames_in}
use Rattle.sg_overflow.specs.View.{Held, held_of, held_count}
use Rattle.sg_overflow.specs.Line.{IsCovered, MovesLine}
use Rattle.sg_overflow.specs.declared.step.Stop.{Stop}
use Rattle.sg_overflow.specs.declared.step.Stop.TheVariants.{Open, Outlet, Later, Store, NoMemory}

-- frames that take so many bytes as entries are within the capacity, beside those held
abbrev pub HasHeldRoom : {D : Type 0} → Held D → ℕ → Type 0
HasHeldRoom held size = live held.store.rows.list + size_of held.memory + size + 1
    ≤ held.limits.capacity

-- these are the frames of the first entries, where the disk tells its bytes
abbrev pub AreFirst : DiskState → List (List ℕ) → Type 0
AreFirst disk frames = WhereTold (content disk) (λ bytes. (list : Entries) → IsList list bytes
    → frames ≡ take (length frames) (frames_in list))

-- why nothing was read: the store has failed, or it works, and memory ran out
abbrev pub ReadStop : Bool → RewriteRefusal → Type 0
ReadStop closed ReadFault = closed ≡ true
ReadStop closed ReadNoMemory = closed ≡ false

-- Nothing happens: all that is held stays, and where the store works each image is its list.
abbrev pub StandsStill : {D : Type 0} → (D → DiskState) → Held D → Type 0
StandsStill disk held = (inner : OutletState) → MovesLine disk [] 0 0 inner inner held held

-- a call that only reads: what is held stays
pub record ReadsHeld {D : Type 0} (disk : D → DiskState) (old new : Held D) : Type 0 where
  pub same : new ≡ record old { store = new.store }
  pub moves : (inner : OutletState) → MovesLine disk [] 0 0 inner inner old new

-- why no frames are shown: the store has failed, or memory ran out
abbrev pub HeldStop : Bool → Stop → Type 0
HeldStop closed Open = ⊥
HeldStop closed Outlet = ⊥
HeldStop closed Later = ⊥
HeldStop closed Store = closed ≡ true
HeldStop closed NoMemory = Unit {0}

-- The first frames, one at least where any are held, and in the store while that has some; it works then.
pub record Shows {D : Type 0} (disk : D → DiskState) (old new : Held D)
    (frames : List (List ℕ)) : Type 0 where
  pub first : (held : List (List ℕ)) → held_of disk old ≡ Some held
      → frames ≡ take (length frames) held
  pub within : length frames ≤ held_count old
  pub stored : 1 ≤ old.stored → length frames ≤ old.stored
  pub some : 1 ≤ held_count old → 1 ≤ length frames
  pub works : 1 ≤ new.stored → new.store.closed ≡ false

-- the first so many are out
pub record DropsHeld {D : Type 0} (disk : D → DiskState) (n : ℕ) (old new : Held D) : Type 0 where
  pub limits : new.limits ≡ old.limits
  pub lasts : SpoolLasts disk old.store new.store
  pub tells : is_some (held_of disk new) ≡ is_some (held_of disk old)
  pub holds : (held : List (List ℕ)) → held_of disk old ≡ Some held
      → held_of disk new ≡ Some (drop n held)
  pub number : held_count new + n ≡ held_count old
  pub memory : length new.memory ≤ length old.memory
  pub stays : old.stored ≤ n + new.stored
  pub images : old.store.closed ≡ false → (held : List (List ℕ)) → held_of disk old ≡ Some held
      → Within (disk old.store.disk) (disk new.store.disk) (IsCovered held n old.stored)

-- at most so many frames are left in memory, or why more are
abbrev pub SpillStop : (kept memory : ℕ) → Bool → Stop → Type 0
SpillStop kept memory closed Open = memory ≤ kept
SpillStop kept memory closed Outlet = ⊥
SpillStop kept memory closed Later = ⊥
SpillStop kept memory closed Store = (kept < memory) × (closed ≡ true)
SpillStop kept memory closed NoMemory = kept < memory

-- none is dropped, or why some are
abbrev pub SettleStop : ℕ → Bool → Stop → Type 0
SettleStop dropped closed Open = dropped ≡ 0
SettleStop dropped closed Outlet = ⊥
SettleStop dropped closed Later = ⊥
SettleStop dropped closed Store = (1 ≤ dropped) × (closed ≡ true)
SettleStop dropped closed NoMemory = 1 ≤ dropped

-- the oldest of memory are in the store, and so many of the newest are dropped
pub record SettlesHeld {D : Type 0} (disk : D → DiskState) (old new : Held D)
    (dropped : ℕ) : Type 0 where
  pub limits : new.limits ≡ old.limits
  pub lasts : SpoolLasts disk old.store new.store
  pub tells : is_some (held_of disk new) ≡ is_some (held_of disk old)
  pub holds : (held : List (List ℕ)) → held_of disk old ≡ Some held
      → held_of disk new ≡ Some (take (length held - dropped) held)
  pub number : held_count new + dropped ≡ held_count old
  pub few : dropped ≤ length old.memory - old.limits.memory
  pub stays : old.stored ≤ new.stored
  pub images : old.store.closed ≡ false → (held : List (List ℕ)) → held_of disk old ≡ Some held
      → Within (disk old.store.disk) (disk new.store.disk) (IsCovered held 0 old.stored)

-- Why no more are forwarded: the outlet inside failed, or it was too early for it, or the store has failed.
abbrev pub StopCause : OutletState → OutletState → Bool → Stop → Type 0
StopCause inner inner' closed Open = Unit {0}
StopCause inner inner' closed Outlet = Rose inner.faults inner'.faults
StopCause inner inner' closed Later = inner.laters + 1 ≤ inner'.laters
StopCause inner inner' closed Store = closed ≡ true
StopCause inner inner' closed NoMemory = Unit {0}
