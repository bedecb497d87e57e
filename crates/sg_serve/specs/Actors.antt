-- What takes the turns of a plan's sources and destinations, before the first of them.
use Rattle.std.specs.Prelude.{◌≡◌, ℕ, Bool, Option, is_some, Some, List, length, slice_get}
use Rattle.sg_device.specs.Inlet.{InletState, IsFresh}
use Rattle.sg_device.specs.Outlet.{OutletState, IsUnusedOutlet}
use Rattle.sg_outside.specs.World.{WorldState, Files, StandsIn}
use Rattle.sg_outside.specs.declared.request.InletSpec.{InletSpec}
use Rattle.sg_machine.specs.declared.setup.SourceSetup.{SourceSetup}
use Rattle.sg_run_plan.specs.declared.inlet.InletPlan.{InletPlan}
use Rattle.sg_run_plan.specs.declared.outlet.OutletPlan.{OutletPlan}
use Rattle.sg_actor.specs.DestTurns.{IsNewDest}
use Rattle.sg_actor.specs.SourceTurns.{ActorState, IsNewSource}
use Rattle.sg_actor.specs.declared.outage.Outage.{Outage}
use Rattle.sg_actor.specs.declared.rendering.DestSpec.{DestSpec}
use Rattle.sg_actor.specs.declared.settings.SourceSpec.{SourceSpec}
use Rattle.sg_serve.specs.Devices.{OpensInlets}

-- Destinations.

-- a destination: what it is set up with, what it knows of failures, and its outlet
pub record DestView : Type 0 where
  pub spec : DestSpec
  pub outage : Outage
  pub drain : OutletState

abbrev pub dest_view : DestSpec → Outage → OutletState → DestView
dest_view spec outage drain = record { spec = spec; outage = outage; drain = drain }

-- It is the destination of that number of a plan. With `--once` it gives up after three failures in a row.
pub record IsDestFor (once : Bool) (d : ℕ) (plan : OutletPlan) (view : DestView) : Type 0 where
  pub is : IsNewDest d once plan.shape plan.env view.spec view.outage view.drain
  pub untaken : IsUnusedOutlet view.drain

abbrev pub AreDestsFor : Bool → List OutletPlan → List DestView → Type 0
AreDestsFor once plans views = (d : ℕ) (plan : OutletPlan) (view : DestView)
    → slice_get plans d ≡ Some plan → slice_get views d ≡ Some view → IsDestFor once d plan view

-- Sources.

-- a source: what it is set up with, what it keeps, and for how many destinations its router has offers
pub record SourceView : Type 0 where
  pub spec : SourceSpec
  pub state : ActorState
  pub dests : ℕ

abbrev pub source_view : SourceSpec → ActorState → ℕ → SourceView
source_view spec state dests = record { spec = spec; state = state; dests = dests }

abbrev pub feed_of : SourceView → InletState
feed_of view = view.state.source.feed

-- It is the source of the inlet of that number of a plan. It has read nothing.
pub record IsSourceFor (i : ℕ) (plan : InletPlan) (store : Option ℕ)
    (view : SourceView) : Type 0 where
  pub spec_is : view.spec ≡ record {
    inlet = i;
    kind = plan.kind;
    limit = plan.limit;
    fetch = plan.fetch;
    from = (feed_of view).from;
    stored = is_some store;
  }
  pub is : IsNewSource (λ j r offers. Unit {0}) view.dests view.spec view.state

abbrev pub AreSourcesFor : List InletPlan → List SourceSetup → List SourceView → Type 0
AreSourcesFor plans setups views =
    (i : ℕ) (plan : InletPlan) (setup : SourceSetup) (view : SourceView)
    → slice_get plans i ≡ Some plan → slice_get setups i ≡ Some setup
    → slice_get views i ≡ Some view
    → IsSourceFor i plan setup.store view

-- a source for each inlet of a plan
pub record AreAllSources (plans : List InletPlan) (setups : List SourceSetup)
    (views : List SourceView) : Type 0 where
  pub all : length views ≡ length plans
  pub each : AreSourcesFor plans setups views

-- The inlet gives from the stored position on, from its beginning where no record of the file can have ended there.
pub record BeginsAt (files : Option Files) (spec : InletSpec) (position : ℕ)
    (feed : InletState) : Type 0 where
  pub fresh : IsFresh feed
  pub stands : StandsIn files spec position feed

abbrev pub AllBeginAt : Option Files → (ℕ → ℕ) → List InletSpec → List InletState → Type 0
AllBeginAt files positions specs feeds =
    (i : ℕ) (spec : InletSpec) (feed : InletState) → slice_get specs i ≡ Some spec
    → slice_get feeds i ≡ Some feed → BeginsAt files spec (positions i) feed

-- These inlets were opened, in order, each at its stored position.
pub record OpensAt (old new : WorldState) (specs : List InletSpec) (positions : ℕ → ℕ)
    (feeds : List InletState) : Type 0 where
  pub opens : OpensInlets old new specs feeds
  pub begin : AllBeginAt old.files positions specs feeds
