-- Disk-buffers that aren't reliable: their stores, why one isn't opened, and how they are finished.
use Rattle.std.specs.Prelude.{◌≡◌, ◌⊎◌, ◌≤◌, ℕ, ◌+◌, ◌-◌, ◌^◌, ◌==◌, ◌||◌, ◌&&◌, min, is_some, Bool, true, false, List, [], ◌∷◌, ◌++◌, length, map, slice_get, Option, Some, None, IfSome, if◌then◌else◌}
use Rattle.std.specs.Option.{option_map}
use Rattle.sg_device.specs.Disk.{DiskState, EachNow}
use Rattle.sg_device.specs.Faults.{Rose}
use Rattle.sg_device.specs.Outlet.{OutletState}
use Rattle.sg_stable.specs.declared.fault.StoreRefusal.{StoreRefusal}
use Rattle.sg_stable.specs.declared.fault.StoreRefusal.TheVariants.{Damage as StoreDamage, DiskFault as StoreFault, NoMemory as StoreNoMemory}
use Rattle.sg_outside.specs.World.{WorldState}
use Rattle.sg_outside.specs.declared.request.OutletSpec.{OutletSpec}
use Rattle.sg_outside.specs.declared.request.StoreSpec.{StoreSpec}
use Rattle.sg_overflow.specs.Buffered.{HeldState, held_state, FinishesAs, IsToldBy}
use Rattle.sg_overflow.specs.Line.{AreStored}
use Rattle.sg_overflow.specs.Opening.{HasReason}
use Rattle.sg_overflow.specs.declared.answers.Finished.{Finished}
use Rattle.sg_overflow.specs.declared.answers.Finished.TheVariants.{Empty, Outlet, Store}
use Rattle.sg_overflow.specs.declared.buffered.Buffered.{Buffered}
use Rattle.sg_run_plan.specs.declared.outlet.OutletPlan.{OutletPlan}
use Rattle.sg_run_plan.specs.declared.overflow.OverflowPlan.{OverflowPlan}
use Rattle.sg_serve.specs.Counts.{tallied_of, numbers_from}
use Rattle.sg_serve.specs.Devices.{OpensOuts}
use Rattle.sg_serve.specs.Early.{OutletsFail, StoresFail}
use Rattle.sg_serve.specs.Exits.{Out, OnlyFails, IsReadied, IsStoreReadied, stores_in}
use Rattle.sg_serve.specs.declared.counts.Counts.{Counts}
use Rattle.sg_serve.specs.declared.counts.Tallied.{Tallied}
use Rattle.sg_serve.specs.declared.ending.Early.{Early}
use Rattle.sg_serve.specs.declared.ending.Device.TheVariants.{Store as StoreDevice, Inlet as InletDevice, Dest as DestDevice}
use Rattle.sg_serve.specs.declared.ending.Early.TheVariants.{OpenFault, Damage, DiskFault, NoMemory}
use Rattle.sg_serve.specs.declared.overflows.OutletRests.{OutletRests}

abbrev pub store_in : Option OverflowPlan → Option StoreSpec
store_in overflow = option_map (λ (plan : OverflowPlan). plan.store) overflow

-- the stores of the disk-buffers that aren't reliable, by destinations
abbrev pub overflow_specs : List OutletPlan → List (Option StoreSpec)
overflow_specs plans = map (λ (plan : OutletPlan). store_in plan.overflow) plans

-- how many stores there are more with a destination
abbrev pub stores_asked : Option OverflowPlan → ℕ
stores_asked None = 0
stores_asked (Some plan) = 1

-- a store takes so many bytes at most
abbrev pub IsOverflowWithin : OutletPlan → Type 0
IsOverflowWithin plan = IfSome plan.overflow (λ (overflow : OverflowPlan). overflow.capacity
    ≤ 2 ^ 30)

abbrev pub AreOverflowsWithin : List OutletPlan → Type 0
AreOverflowsWithin [] = Unit {0}
AreOverflowsWithin (plan ∷ plans) = IsOverflowWithin plan × AreOverflowsWithin plans

abbrev pub overflow_refusal : ℕ → StoreRefusal → Early
overflow_refusal number (StoreDamage at) = Damage number at
overflow_refusal number StoreFault = DiskFault number
overflow_refusal number StoreNoMemory = NoMemory

-- What stood in the store at the opening, and behind it what the destination's outlet took since, is what the outlet inside took, and
-- behind it what is held.
abbrev pub WayAddsUp : OutletState → OutletState → HeldState → Type 0
WayAddsUp outlet inner held = (taken forwarded frames : List (List ℕ)) → outlet.taken ≡ Some taken
    → inner.taken ≡ Some forwarded → held.frames ≡ Some frames
    → (loaded : List (List ℕ)) × (loaded ++ taken ≡ forwarded ++ frames)

-- True of each way out, however it was used: where no frames are held back, its outlet is the one that the machine has.
pub record IsWayWhole (out : Out) : Type 0 where
  pub direct : out.held ≡ None → out.inner ≡ out.outlet
  pub adds_up : IfSome out.held (WayAddsUp out.outlet out.inner)

abbrev pub AreWaysWhole : List Out → Type 0
AreWaysWhole [] = Unit {0}
AreWaysWhole (out ∷ outs) = IsWayWhole out × AreWaysWhole outs

-- frames are held back exactly where the plan asks for it
abbrev pub IsHeldAsked : Option OverflowPlan → Option HeldState → Type 0
IsHeldAsked None None = Unit {0}
IsHeldAsked None (Some held) = ⊥
IsHeldAsked (Some plan) None = ⊥
IsHeldAsked (Some plan) (Some held) = Unit {0}

abbrev pub AreHeldAsked : List OutletPlan → List Out → Type 0
AreHeldAsked [] [] = Unit {0}
AreHeldAsked [] (out ∷ outs) = ⊥
AreHeldAsked (plan ∷ plans) [] = ⊥
AreHeldAsked (plan ∷ plans) (out ∷ outs) = IsHeldAsked plan.overflow out.held
    × AreHeldAsked plans outs

-- A way out was opened: this is how the machine handed it over, and it was made ready.
pub record OpensWay (old new : WorldState) (spec : OutletSpec) (overflow : Option OverflowPlan)
    (now : Out) : Type 0 where
  pub opened : Out
  pub opens : OpensOuts old new (spec ∷ []) (store_in overflow ∷ []) (opened ∷ [])
  pub readied : IsReadied opened now
  pub asked : IsHeldAsked overflow now.held

-- Why a disk-buffer isn't opened over its store: that couldn't be opened, or its bytes are no list of frames, or it failed.
abbrev pub StoreMisses : WorldState → WorldState → ℕ → Option DiskState → Option DiskState → Early
    → Type 0
StoreMisses old new number None None early = StoresFail old new number early
StoreMisses old new number None (Some after) early = ⊥
StoreMisses old new number (Some before) None early = ⊥
StoreMisses old new number (Some before) (Some after) early = (refusal : StoreRefusal)
    × (early ≡ overflow_refusal number refusal) × HasReason before after refusal

-- The same of the way out of a destination: this is how the machine handed over what is open of it, and only the store may have been read
-- and synced since.
pub record Misses (old new : WorldState) (spec : OutletSpec) (overflow : Option OverflowPlan)
    (number : ℕ) (out : Out) (early : Early) : Type 0 where
  pub opened : Out
  pub opens : OpensOuts old new (spec ∷ []) (store_in overflow ∷ []) (opened ∷ [])
  pub outlet : out.outlet ≡ opened.outlet
  pub inner : out.inner ≡ opened.inner
  pub opener : out.opener ≡ opened.opener
  pub held : out.held ≡ opened.held
  pub store : StoreMisses old new number opened.store out.store early
      ⊎ ((early ≡ NoMemory) × IsStoreReadied opened.store out.store)

abbrev pub MissesWay : WorldState → WorldState → OutletSpec → Option OverflowPlan → (d number : ℕ)
    → Option Out → Early → Type 0
MissesWay old new spec overflow d number None early =
    OnlyFails old new × OutletsFail old new d early
MissesWay old new spec overflow d number (Some out) early = Misses old new spec overflow number out
    early

-- the last store that was opened behind so many others was refused so, and has this number
pub record LastMisses (stores : ℕ) (opened closed : List Out) (number : ℕ)
    (refusal : StoreRefusal) : Type 0 where
  pub front : List DiskState
  pub before : DiskState
  pub after : DiskState
  pub opened_are : stores_in opened ≡ front ++ before ∷ []
  pub number_is : number ≡ stores + length front
  pub closed_is : slice_get (stores_in closed) (length front) ≡ Some after
  pub reason : HasReason before after refusal

-- why not all ways out could be opened, behind so many stores
abbrev pub WaysFail : WorldState → WorldState → ℕ → List Out → List Out → Early → Type 0
WaysFail old new stores opened closed (OpenFault (StoreDevice n)) =
    (n ≡ stores + length (stores_in opened)) × Rose old.store_faults new.store_faults
WaysFail old new stores opened closed (Damage s at) =
    LastMisses stores opened closed s (StoreDamage at)
WaysFail old new stores opened closed (DiskFault s) = LastMisses stores opened closed s StoreFault
WaysFail old new stores opened closed (OpenFault (InletDevice n)) = ⊥
WaysFail old new stores opened closed (OpenFault (DestDevice n)) = OutletsFail old new
    (length opened) (OpenFault (DestDevice n))
WaysFail old new stores opened closed NoMemory = Unit {0}

-- How they are finished.

abbrev pub is_refused : Finished → Bool
is_refused Empty = false
is_refused Outlet = true
is_refused Store = false

-- Behind the finish of one: where its store works each image of that is what is held; nothing is held, unless the outlet inside was refused
-- three times, or the store failed, which then has counted a fault.
pub record IsHeldFinished (out : Out) (held : HeldState) (refused : Bool) : Type 0 where
  pub number : IfSome held.frames (λ frames. min (length frames) (2 ^ 64 - 1) ≡ held.count)
  pub saved : held.failed ≡ false
      → IfSome held.frames (λ frames. IfSome out.store (λ store. EachNow store (AreStored frames)))
  pub empty : refused ≡ false → held.failed ≡ false → held.count ≡ 0
  pub some : refused ≡ true
      → (1 ≤ held.count) × (held.failed ≡ false) × (3 ≤ out.inner.faults + out.inner.laters)
  pub blamed : held.failed ≡ true
      → (store : DiskState) × (out.store ≡ Some store) × (1 ≤ store.faults)

abbrev pub IsFinishedOut : Out → Option HeldState → Bool → Type 0
IsFinishedOut out None refused = refused ≡ false
IsFinishedOut out (Some held) refused = IsHeldFinished out held refused

abbrev pub AreFinishedOuts : List Out → List Bool → Type 0
AreFinishedOuts [] [] = Unit {0}
AreFinishedOuts [] (refused ∷ rest) = ⊥
AreFinishedOuts (out ∷ outs) [] = ⊥
AreFinishedOuts (out ∷ outs) (refused ∷ rest) = IsFinishedOut out out.held refused
    × AreFinishedOuts outs rest

abbrev pub held_at : ℕ → Option HeldState → List (ℕ × ℕ)
held_at d None = []
held_at d (Some held) = (d, held.count) ∷ []

-- how many frames are held, by destinations from this number on
abbrev pub held_from : ℕ → List (Option HeldState) → List (ℕ × ℕ)
held_from d [] = []
held_from d (held ∷ rest) = held_at d held ++ held_from (d + 1) rest

-- of the stores of held frames, numbered from this number on, those that failed
abbrev pub failed_from : ℕ → List (Option HeldState) → List ℕ
failed_from s [] = []
failed_from s (None ∷ rest) = failed_from s rest
failed_from s (Some held ∷ rest) =
    if held.failed then s ∷ failed_from (s + 1) rest else failed_from (s + 1) rest

abbrev pub is_among : ℕ → List ℕ → Bool
is_among n [] = false
is_among n (m ∷ ms) = n == m || is_among n ms

-- the destinations that were given up, and with an end of the run those whose outlets didn't take what was held
abbrev pub sinks_from : ℕ → List ℕ → Bool → List Bool → List ℕ
sinks_from d gone once [] = []
sinks_from d gone once (refused ∷ rest) = if is_among d gone || (once && refused)
    then d ∷ sinks_from (d + 1) gone once rest else sinks_from (d + 1) gone once rest

abbrev pub held_more : Option HeldState → ℕ
held_more None = 0
held_more (Some held) = 1

-- one of them: how many frames are held is noted, and whether their store failed; so many stores more there are
pub record NotesHeld (held : Option HeldState) (dest store : ℕ) (before after : OutletRests)
    (more : ℕ) : Type 0 where
  pub held_is : after.held ≡ before.held ++ held_at dest held
  pub stores_are : after.stores ≡ before.stores ++ failed_from store (held ∷ [])
  pub sinks_stay : after.sinks ≡ before.sinks
  pub more_are : more ≡ held_more held

abbrev pub is_sink : ℕ → List ℕ → Bool → Bool → Bool
is_sink d gone once refused = is_among d gone || (once && refused)

-- it is finished, and all is noted
pub record IsFinished {O D : Type 0} (outlet : O → OutletState) (disk : D → DiskState)
    (old new : Buffered O D) (dest store : ℕ) (gone : List ℕ) (once : Bool)
    (before after : OutletRests) (more : ℕ) : Type 0 where
  pub finished : Finished
  pub finishes : FinishesAs outlet disk old new finished
  pub told : IsToldBy disk new
  pub held_is : after.held ≡ before.held ++ held_at dest (held_state disk new)
  pub stores_are : after.stores ≡ before.stores ++ failed_from store (held_state disk new ∷ [])
  pub sinks_are : after.sinks
      ≡ before.sinks ++ numbers_from dest (is_sink dest gone once (is_refused finished) ∷ [])
  pub more_are : more ≡ held_more (held_state disk new)

-- none of them: these stores have failed before
pub record RestsBegin (failed : List ℕ) (rests : OutletRests) : Type 0 where
  pub no_held : rests.held ≡ []
  pub no_sinks : rests.sinks ≡ []
  pub stores_are : rests.stores ≡ failed

-- all of them
abbrev pub AllFinish : {O D : Type 0} → (O → OutletState) → (D → DiskState) → List (Buffered O D)
    → List (Buffered O D) → List Finished → Type 0
AllFinish outlet disk [] [] [] = Unit {0}
AllFinish outlet disk [] [] (f ∷ finished) = ⊥
AllFinish outlet disk [] (new ∷ news) finished = ⊥
AllFinish outlet disk (old ∷ olds) [] finished = ⊥
AllFinish outlet disk (old ∷ olds) (new ∷ news) [] = ⊥
AllFinish outlet disk (old ∷ olds) (new ∷ news) (f ∷ finished) =
    FinishesAs outlet disk old new f × IsToldBy disk new × AllFinish outlet disk olds news finished

pub record AreFinished {O D : Type 0} (outlet : O → OutletState) (disk : D → DiskState)
    (olds news : List (Buffered O D)) (asked : List Bool) (gone failed : List ℕ) (first : ℕ)
    (once : Bool) (rests : OutletRests) : Type 0 where
  pub finished : List Finished
  pub finish : AllFinish outlet disk olds news finished
  pub asked_are : asked ≡ map (λ (way : Buffered O D). is_some (held_state disk way)) news
  pub held : rests.held ≡ held_from 0 (map (held_state disk) news)
  pub sinks : rests.sinks ≡ sinks_from 0 gone once (map is_refused finished)
  pub stores : rests.stores ≡ failed ++ failed_from first (map (held_state disk) news)

-- What is left behind the rounds: the ways out are those that the plan asks for, each is finished, and all is told of them.
pub record AreRests (once : Bool) (first : ℕ) (plans : List OutletPlan) (outs : List Out)
    (counts : Counts) : Type 0 where
  pub refused : List Bool
  pub asked : AreHeldAsked plans outs
  pub finished : AreFinishedOuts outs refused
  pub held : counts.rests.held ≡ held_from 0 (map (λ (out : Out). out.held) outs)
  pub sinks : counts.rests.sinks ≡ sinks_from 0 counts.sinks once refused
  pub stores : counts.rests.stores
      ≡ counts.stores ++ failed_from first (map (λ (out : Out). out.held) outs)

-- what a run has come to, with what is left; none where memory ran out
abbrev pub CountsRests : {O D : Type 0} → (O → OutletState) → (D → DiskState) → Option Tallied
    → List (Buffered O D) → List (Buffered O D) → List Bool → ℕ → Bool → Option Counts → Type 0
CountsRests outlet disk tallied olds news asked first once None = Unit {0}
CountsRests outlet disk None olds news asked first once (Some counts) = ⊥
CountsRests outlet disk (Some tallied) olds news asked first once (Some counts) =
    (tallied_of counts ≡ tallied)
    × AreFinished outlet disk olds news asked tallied.sinks tallied.stores first once counts.rests
