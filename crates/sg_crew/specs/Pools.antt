-- Workers that threads share.
use Rattle.std.specs.Prelude.{◌≡◌, ◌<◌, ℕ, true, List, Some, slice_get, is_some}
use Rattle.sg_device.specs.Inlet.{InletState}
use Rattle.sg_device.specs.Outlet.{OutletState}
use Rattle.sg_msg.specs.declared.offer.Offer.{Offer}
use Rattle.sg_frame.specs.Records.{Record}
use Rattle.sg_actor.specs.declared.dest.DestActor.{DestActor}
use Rattle.sg_actor.specs.declared.source.SourceActor.{SourceActor}
use Rattle.sg_hub.specs.Seats.{HubState}
use Rattle.sg_crew.specs.Workers.{MayRead, MaySend, ReadsOnce, SendsOnce, HasReadPhase, HasSent}
use Rattle.sg_crew.specs.declared.worker.Worker.{Worker}

-- a worker, and its place among those of its kind
pub record WorkerAt (W : Type 0) : Type 0 where
  pub place : ℕ
  pub worker : W

-- this is kept of each of these workers
abbrev pub AllKept : {W : Type 0} → (ℕ → W → Type 0) → List W → Type 0
AllKept {W} kept ws = (j : ℕ) (w : W) → slice_get ws j ≡ Some w → kept j w

-- the worker may take one more turn of a phase: there may be one, and the last one found memory
abbrev pub MayGoOn : {A D : Type 0} → Worker A D → Type 0
MayGoOn w = (w.turns < 256) × (0 < w.turns → is_some w.turn ≡ true)

-- what is kept of a source lets it take one more turn, and is kept behind it
pub record ReadsOnKept {R I D : Type 0} (state : I → InletState)
    (offers : R → ℕ → Record → List Offer → Type 0) (inlets dests : R → ℕ) (hub : HubState)
    (kept : ℕ → Worker (SourceActor R I) D → Type 0) : Type 0 where
  pub may : (j : ℕ) (w : Worker (SourceActor R I) D) → kept j w → MayGoOn w
      → MayRead state inlets dests hub w
  pub again : (j : ℕ) (w v : Worker (SourceActor R I) D) → kept j w → MayGoOn w
      → ReadsOnce state offers inlets dests hub w v → kept j v

-- the same of a destination
pub record SendsOnKept {O D : Type 0} (state : O → OutletState) (hub : HubState)
    (kept : ℕ → Worker (DestActor O) D → Type 0) : Type 0 where
  pub may : (j : ℕ) (w : Worker (DestActor O) D) → kept j w → MayGoOn w → MaySend state hub w
  pub again : (j : ℕ) (w v : Worker (DestActor O) D) → kept j w → MayGoOn w
      → SendsOnce state hub w v → kept j v

-- What is kept of sources holds before their first turn, and tells of each that took one what it did.
pub record KeepsReads {R I D : Type 0} (state : I → InletState)
    (offers : R → ℕ → Record → List Offer → Type 0) (inlets dests : R → ℕ) (hub : HubState)
    (olds : List (Worker (SourceActor R I) D))
    (kept : ℕ → Worker (SourceActor R I) D → Type 0) : Type 0 where
  pub begins : AllKept kept olds
  pub goes_on : ReadsOnKept state offers inlets dests hub kept
  pub tells : (j : ℕ) (w v : Worker (SourceActor R I) D) → slice_get olds j ≡ Some w → kept j v
      → 0 < v.turns → HasReadPhase state offers inlets dests hub w v

-- the same of destinations
pub record KeepsSends {O D : Type 0} (state : O → OutletState) (hub : HubState)
    (olds : List (Worker (DestActor O) D))
    (kept : ℕ → Worker (DestActor O) D → Type 0) : Type 0 where
  pub begins : AllKept kept olds
  pub goes_on : SendsOnKept state hub kept
  pub tells : (j : ℕ) (w v : Worker (DestActor O) D) → slice_get olds j ≡ Some w → kept j v
      → 0 < v.turns → HasSent state hub w v
