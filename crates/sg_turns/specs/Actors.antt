-- The actors of a run.
use Rattle.std.specs.Prelude.{◌≡◌, ◌≤◌, ℕ, Some, List, length, slice_get}
use Rattle.sg_device.specs.Inlet.{InletState}
use Rattle.sg_device.specs.Outlet.{OutletState}
use Rattle.sg_msg.specs.declared.offer.Offer.{Offer}
use Rattle.sg_machine.specs.declared.setup.Setup.{Setup}
use Rattle.sg_frame.specs.Records.{Record}
use Rattle.sg_route.specs.Offers.{SameRouter}
use Rattle.sg_actor.specs.Sources.{IsReady}
use Rattle.sg_actor.specs.Outages.{HasFailures}
use Rattle.sg_actor.specs.SourceTurns.{ActorState, actor, FitsSource}
use Rattle.sg_actor.specs.declared.dest.DestActor.{DestActor}
use Rattle.sg_actor.specs.declared.source.SourceActor.{SourceActor}
use Rattle.sg_turns.specs.Turns.{Turn, SourceTurns, TookTurns, DestState, dest_state, DestTurns, SentTurns}

-- as many sources and destinations as a run takes at most
abbrev pub AreFewActors : ℕ → ℕ → Type 0
AreFewActors sources dests = (sources ≤ 128) × (dests ≤ 64)

-- what turns see of a source, and of a destination
abbrev pub source_seen : {R I : Type 0} → (I → InletState) → SourceActor R I → ActorState
source_seen state a = actor (state a.inlet) a.reader a.buffer.items a.position a.bad_frames

abbrev pub dest_seen : {O : Type 0} → (O → OutletState) → DestActor O → DestState
dest_seen state a = dest_state a.outage (state a.outlet)

-- the source of this number, ready for a turn
pub record IsSource {R I : Type 0} (state : I → InletState) (inlets dests : R → ℕ) (setup : Setup)
    (i : ℕ) (a : SourceActor R I) : Type 0 where
  pub number : a.spec.inlet ≡ i
  pub fits : FitsSource setup a.spec (inlets a.router) (dests a.router)
  pub ready : IsReady (dests a.router) a.spec (source_seen state a).source

-- the sources of a core, each at the place of its number
pub record AreSources {R I : Type 0} (state : I → InletState) (inlets dests : R → ℕ) (setup : Setup)
    (actors : List (SourceActor R I)) : Type 0 where
  pub all : length actors ≡ length setup.sources
  pub each : (i : ℕ) (a : SourceActor R I) → slice_get actors i ≡ Some a
      → IsSource state inlets dests setup i a

-- the destination of this number, ready for a turn
pub record IsDest {O : Type 0} (state : O → OutletState) (d : ℕ) (a : DestActor O) : Type 0 where
  pub number : a.spec.dest ≡ d
  pub failures : HasFailures a.outage (state a.outlet)

-- the destinations of a core, each at the place of its number
pub record AreDests {O : Type 0} (state : O → OutletState) (setup : Setup)
    (actors : List (DestActor O)) : Type 0 where
  pub all : length actors ≡ length setup.dests
  pub each : (d : ℕ) (a : DestActor O) → slice_get actors d ≡ Some a → IsDest state d a

-- a source before and after a turn
pub record SourceTakes {R I : Type 0} (state : I → InletState)
    (offers : R → ℕ → Record → List Offer → Type 0) (inlets dests : R → ℕ)
    (old new : SourceActor R I) (turn : Turn) : Type 0 where
  pub turns : SourceTurns (offers old.router) (dests old.router) old.spec (source_seen state old)
      (source_seen state new) turn
  pub router : SameRouter (offers old.router) (offers new.router) (inlets old.router)
      (inlets new.router) (dests old.router) (dests new.router)
  pub spec : new.spec ≡ old.spec

-- a source before and after these turns
pub record SourceTook {R I : Type 0} (state : I → InletState)
    (offers : R → ℕ → Record → List Offer → Type 0) (inlets dests : R → ℕ)
    (old new : SourceActor R I) (turns : List Turn) : Type 0 where
  pub took : TookTurns (offers old.router) (dests old.router) old.spec (source_seen state old)
      (source_seen state new) turns
  pub router : SameRouter (offers old.router) (offers new.router) (inlets old.router)
      (inlets new.router) (dests old.router) (dests new.router)
  pub spec : new.spec ≡ old.spec

-- a destination before and after a turn
pub record DestTakes {O : Type 0} (state : O → OutletState) (old new : DestActor O)
    (turn : Turn) : Type 0 where
  pub turns : DestTurns old.spec (dest_seen state old) (dest_seen state new) turn
  pub spec : new.spec ≡ old.spec

-- a destination before and after these turns
pub record DestTook {O : Type 0} (state : O → OutletState) (old new : DestActor O)
    (turns : List Turn) : Type 0 where
  pub took : SentTurns old.spec (dest_seen state old) (dest_seen state new) turns
  pub spec : new.spec ≡ old.spec
