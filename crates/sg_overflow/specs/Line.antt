-- What a call does to the frames that are held, and what a crash within it leaves of them.
use Rattle.std.specs.Prelude.{◌≡◌, ◌≤◌, ◌⊎◌, ℕ, ◌+◌, List, [], ◌++◌, length, take, drop, map, Some, is_some, true, false, Result, Ok, Err}
use Rattle.std.specs.Option.{option_map}
use Rattle.sg_device.specs.Disk.{DiskState, Within}
use Rattle.sg_device.specs.Faults.{Rose}
use Rattle.sg_device.specs.Outlet.{OutletState}
use Rattle.sg_device.specs.declared.fault.SendRefusal.{SendRefusal}
use Rattle.sg_device.specs.declared.fault.SendRefusal.TheVariants.{Fault, Later, NoMemory}
use Rattle.sg_spool.specs.Calls.{SpoolLasts}
use Rattle.sg_spool.specs.Ring.{IsList}
use Rattle.sg_overflow.specs.Payload.{tagged}
use Rattle.sg_overflow.specs.View.{OverflowView, Held, held_of, held_count, loaded_of}

-- the bytes stand for these frames
abbrev pub AreStored : List (List ℕ) → List ℕ → Type 0
AreStored frames bytes = IsList (map tagged frames) bytes

-- An image of a store, where so many of the line's frames were forwarded: it has frames of the line in order, none left out between
-- them. None is missing in front but such as were forwarded, and none of the first ones that are kept.
pub record IsCovered (line : List (List ℕ)) (forwarded kept : ℕ) (bytes : List ℕ) : Type 0 where
  pub frames : List (List ℕ)
  pub stored : AreStored frames bytes
  pub first : ℕ
  pub front : first ≤ forwarded
  pub stands : frames ≡ take (length frames) (drop first line)
  pub enough : kept ≤ first + length frames

-- Of the frames given, so many of the first are taken. Of the frames held before, with those behind them, the first so many are
-- forwarded, and the others are held. While the disk worked at the call, each image within it has all frames that were in the store
-- and aren't forwarded, and may have some of the others behind them.
pub record MovesLine {D : Type 0} (disk : D → DiskState) (given : List (List ℕ))
    (taken forwarded : ℕ) (inner inner' : OutletState) (old new : Held D) : Type 0 where
  pub limits : new.limits ≡ old.limits
  pub lasts : SpoolLasts disk old.store new.store
  pub tells : is_some (held_of disk new) ≡ is_some (held_of disk old)
  pub inner_tells : is_some inner'.taken ≡ is_some inner.taken
  pub faults : inner.faults ≤ inner'.faults
  pub laters : inner.laters ≤ inner'.laters
  pub few : taken ≤ length given
  pub number : held_count new + forwarded ≡ held_count old + taken
  pub memory : length new.memory ≤ length old.memory + taken
  pub some : (held : List (List ℕ)) → held_of disk old ≡ Some held
      → forwarded ≤ length held + taken
  pub forwards : (held : List (List ℕ)) → held_of disk old ≡ Some held
      → inner'.taken
      ≡ option_map (λ before. before ++ take forwarded (held ++ take taken given)) inner.taken
  pub holds : (held : List (List ℕ)) → held_of disk old ≡ Some held
      → held_of disk new ≡ Some (drop forwarded (held ++ take taken given))
  pub stays : old.stored ≤ forwarded + new.stored
  pub images : old.store.closed ≡ false → (held : List (List ℕ)) → held_of disk old ≡ Some held
      → Within (disk old.store.disk) (disk new.store.disk)
      (IsCovered (held ++ given) forwarded old.stored)

-- What outlives each call: how much is held at most, and the list at the opening. A store that failed stays as it is, and one fails
-- exactly where its count of faults rises.
pub record Lasts {O D : Type 0} (outlet : O → OutletState) (disk : D → DiskState)
    (old new : OverflowView O D) : Type 0 where
  pub limits : new.held.limits ≡ old.held.limits
  pub loaded : loaded_of outlet disk new ≡ loaded_of outlet disk old
  pub store : SpoolLasts disk old.held.store new.held.store

-- the first of these frames are taken, as many as the count says
pub record Accepts {O D : Type 0} (outlet : O → OutletState) (disk : D → DiskState)
    (frames : List (List ℕ)) (old new : OverflowView O D) : Type 0 where
  pub taken : ℕ
  pub count : new.tally.count ≡ old.tally.count + taken
  pub forwarded : ℕ
  pub moves : MovesLine disk frames taken forwarded (outlet old.inner) (outlet new.inner)
      old.held new.held

-- no frame is taken
pub record Forwards {O D : Type 0} (outlet : O → OutletState) (disk : D → DiskState)
    (old new : OverflowView O D) : Type 0 where
  pub forwarded : ℕ
  pub moves : MovesLine disk [] 0 forwarded (outlet old.inner) (outlet new.inner) old.held new.held

-- the same of the outlet inside and what is held
abbrev pub ForwardsBy : {D : Type 0} → (D → DiskState) → OutletState → OutletState → Held D → Held D
    → Type 0
ForwardsBy disk inner inner' old new =
    (forwarded : ℕ) × MovesLine disk [] 0 forwarded inner inner' old new

-- A refusal has its cause: a fault, that the outlet inside failed, or the store, now or earlier; and one as too early, that it was so for
-- the outlet inside.
abbrev pub HasSendCauseOf : {D : Type 0} → (D → DiskState) → OutletState → OutletState → Held D → Held D
    → Result Unit SendRefusal → Type 0
HasSendCauseOf disk inner inner' old new (Ok done) = Unit {0}
HasSendCauseOf disk inner inner' old new (Err Fault) = (old.store.closed ≡ true)
    ⊎ (Rose inner.faults inner'.faults
    ⊎ Rose (disk old.store.disk).faults (disk new.store.disk).faults)
HasSendCauseOf disk inner inner' old new (Err Later) = inner.laters + 1 ≤ inner'.laters
HasSendCauseOf disk inner inner' old new (Err NoMemory) = Unit {0}

abbrev pub HasSendCause : {O D : Type 0} → (O → OutletState) → (D → DiskState) → OverflowView O D
    → OverflowView O D → Result Unit SendRefusal → Type 0
HasSendCause outlet disk old new result = HasSendCauseOf disk (outlet old.inner)
    (outlet new.inner) old.held new.held result
