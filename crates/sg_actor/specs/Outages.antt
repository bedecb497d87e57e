-- What a destination knows of its outlet's failures.
use Rattle.std.specs.Prelude.{◌≡◌, ◌≤◌, ℕ, ◌+◌, ◌==◌, ◌&&◌, if◌then◌else◌, min, Bool, true, false, Option, Some, None, List, [], ◌++◌, length, take}
use Rattle.std.specs.Option.{option_map}
use Rattle.sg_device.specs.Faults.{Rose}
use Rattle.sg_device.specs.Outlet.{OutletState}
use Rattle.sg_actor.specs.declared.outage.Outage.{Outage}
use Rattle.sg_actor.specs.declared.outage.BegunTurn.{BegunTurn}
use Rattle.sg_actor.specs.declared.outage.BegunTurn.TheVariants.{Open, Reopened, Later, Failed}
use Rattle.sg_actor.specs.declared.outage.Sent.{Sent}
use Rattle.sg_actor.specs.declared.turned.GivenUp.{GivenUp}
use Rattle.sg_actor.specs.declared.turned.GivenUp.TheVariants.{Outlet, Store}

-- the failures in a row are those of the outlet, 3 where there were more
abbrev pub HasFailures : Outage → OutletState → Type 0
HasFailures outage drain = outage.failures ≡ min drain.failing 3

-- at the third failure a destination that gives up is given up
abbrev pub cause_after : Bool → ℕ → Option GivenUp → Option GivenUp
cause_after gives_up failures cause = if gives_up && (failures == 3) then Some Outlet else cause

-- a send or reopening failed
abbrev pub failed : Bool → Outage → Outage
failed gives_up outage = record {
  reopens = true;
  failures = min (outage.failures + 1) 3;
  given_up = cause_after gives_up (min (outage.failures + 1) 3) outage.given_up;
}

-- frames were taken
abbrev pub with_taken : ℕ → Outage → Outage
with_taken taken outage = record outage { failures = if taken == 0 then outage.failures else 0 }

-- a destination that isn't given up is, since the store of its disk-buffer has failed
abbrev pub broken_cause : Option GivenUp → Option GivenUp
broken_cause (Some cause) = Some cause
broken_cause None = Some Store

abbrev pub broken : Outage → Outage
broken outage = record outage { given_up = broken_cause outage.given_up }

-- so many of the first of these frames were taken
pub record TakesFrames (taken : ℕ) (frames : List (List ℕ)) (old new : OutletState) : Type 0 where
  pub told : new.taken ≡ option_map (λ before. before ++ take taken frames) old.taken
  pub rose : new.count ≡ old.count + taken
  pub faults : old.faults ≤ new.faults

-- an outlet that didn't fail last isn't reopened; another one is, or it is too early, or it fails again
abbrev pub BeginsTurn : Bool → Outage → Outage → OutletState → OutletState → BegunTurn → Type 0
BeginsTurn gives_up old new drain drain' Open =
    (old.reopens ≡ false) × (new ≡ old) × (drain' ≡ drain)
BeginsTurn gives_up old new drain drain' Reopened = (old.reopens ≡ true)
    × (new ≡ record old { reopens = false }) × TakesFrames 0 [] drain drain'
    × (drain'.laters ≡ drain.laters) × (drain'.failing ≡ drain.failing)
BeginsTurn gives_up old new drain drain' Later = (old.reopens ≡ true) × (new ≡ old)
    × (drain' ≡ record drain { laters = drain.laters + 1 })
BeginsTurn gives_up old new drain drain' Failed = (old.reopens ≡ true) × (new ≡ failed gives_up old)
    × TakesFrames 0 [] drain drain' × (drain'.laters ≡ drain.laters)
    × Rose drain.faults drain'.faults
    × HasFailures new drain'

-- it was too early for one call, or for none
abbrev pub Waits : Bool → OutletState → OutletState → Type 0
Waits true drain drain' = drain'.laters ≡ drain.laters + 1
Waits false drain drain' = drain'.laters ≡ drain.laters

-- it was too early for a call, and no frame was taken
abbrev pub is_idle : Bool → ℕ → Bool
is_idle later taken = later && (taken == 0)

-- what became of a send: a failure is counted, and neither is it one that it was too early nor lack of memory
pub record SendComesTo (gives_up : Bool) (frames : List (List ℕ)) (old new : Outage)
    (drain drain' : OutletState) (sent : Sent) : Type 0 where
  pub takes : TakesFrames sent.taken frames drain drain'
  pub within : sent.taken ≤ length frames
  pub waits : Waits sent.later drain drain'
  pub failures : HasFailures new drain'
  pub refused : Bool
  pub rose : refused ≡ true → Rose drain.faults drain'.faults
  pub outage : new
      ≡ (if refused then failed gives_up (with_taken sent.taken old) else with_taken sent.taken old)
  pub whole : sent.starved ≡ false → refused ≡ false → sent.later ≡ false
      → sent.taken ≡ length frames
