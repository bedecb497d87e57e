-- An outlet with or without frames that are held back.
use Rattle.std.specs.Prelude.{◌≡◌, ℕ, ◌-◌, ◌^◌, min, List, Bool, false, Option, Some, None}
use Rattle.sg_device.specs.Disk.{DiskState}
use Rattle.sg_device.specs.Outlet.{OutletState}
use Rattle.sg_overflow.specs.View.{outlet_of, held_of, held_count, IsHeldTold}
use Rattle.sg_overflow.specs.Finishing.{Finishes}
use Rattle.sg_overflow.specs.declared.answers.Finished.{Finished}
use Rattle.sg_overflow.specs.declared.answers.Finished.TheVariants.{Empty}
use Rattle.sg_overflow.specs.declared.buffered.Buffered.{Buffered}
use Rattle.sg_overflow.specs.declared.buffered.Buffered.TheVariants.{Direct, Overflow}

abbrev pub buffered_of : {O D : Type 0} → (O → OutletState) → (D → DiskState) → Buffered O D
    → OutletState
buffered_of outlet disk (Direct inner) = outlet inner
buffered_of outlet disk (Overflow view) = outlet_of outlet disk view

abbrev pub inner_of : {O D : Type 0} → Buffered O D → O
inner_of (Direct inner) = inner
inner_of (Overflow view) = view.inner

abbrev pub disk_in : {O D : Type 0} → Buffered O D → Option D
disk_in (Direct inner) = None
disk_in (Overflow view) = Some view.held.store.disk

-- what is told of frames that are held back: the frames, the oldest first, where their store tells its bytes; how many they are, and
-- whether the store has failed
pub record HeldState : Type 0 where
  pub frames : Option (List (List ℕ))
  pub count : ℕ
  pub failed : Bool

abbrev pub held_state : {O D : Type 0} → (D → DiskState) → Buffered O D → Option HeldState
held_state disk (Direct inner) = None
held_state disk (Overflow view) = Some (record {
  frames = held_of disk view.held;
  count = min (held_count view.held) (2 ^ 64 - 1);
  failed = view.held.store.closed;
})

abbrev pub has_failed : Option HeldState → Bool
has_failed None = false
has_failed (Some held) = held.failed

abbrev pub IsToldBy : {O D : Type 0} → (D → DiskState) → Buffered O D → Type 0
IsToldBy disk (Direct inner) = Unit {0}
IsToldBy disk (Overflow view) = IsHeldTold disk view.held

-- where nothing is held back nothing changes
abbrev pub FinishesAs : {O D : Type 0} → (O → OutletState) → (D → DiskState) → Buffered O D
    → Buffered O D → Finished → Type 0
FinishesAs outlet disk (Direct inner) (Direct after) finished = (after ≡ inner)
    × (finished ≡ Empty)
FinishesAs outlet disk (Direct inner) (Overflow view) finished = ⊥
FinishesAs outlet disk (Overflow view) (Direct after) finished = ⊥
FinishesAs outlet disk (Overflow view) (Overflow after) finished = Finishes outlet disk view after
    finished
