-- Workers, as the actors that sit at their seats.
use Rattle.std.specs.Prelude.{◌≡◌, ◌≤◌, ◌<◌, ◌+◌, ℕ, Option, List, [], map, length}
use Rattle.sg_device.specs.Inlet.{InletState}
use Rattle.sg_device.specs.Outlet.{OutletState}
use Rattle.sg_msg.specs.declared.offer.Offer.{Offer}
use Rattle.sg_frame.specs.Records.{Record}
use Rattle.sg_booth.specs.Lists.{total}
use Rattle.sg_booth.specs.Desks.{IsDeskOf, fresh_desk}
use Rattle.sg_standing.specs.States.{setup_of}
use Rattle.sg_counter.specs.Exchanges.{OfSource, OfDest}
use Rattle.sg_actor.specs.Reading.{one_if}
use Rattle.sg_actor.specs.Sources.{IsReady}
use Rattle.sg_actor.specs.Outages.{HasFailures}
use Rattle.sg_actor.specs.SourceTurns.{FitsSource}
use Rattle.sg_actor.specs.declared.dest.DestActor.{DestActor}
use Rattle.sg_actor.specs.declared.source.SourceActor.{SourceActor}
use Rattle.sg_actor.specs.declared.turned.Turned.{Turned}
use Rattle.sg_turns.specs.Turns.{Turn}
use Rattle.sg_turns.specs.Serving.{is_busy, busy_of}
use Rattle.sg_turns.specs.Actors.{source_seen, AreSources, AreDests, SourceTakes, DestTakes}
use Rattle.sg_hub.specs.Seats.{HubState, SeatState}
use Rattle.sg_crew.specs.Crews.{TookEach, WorkedOnce, WorkedWith}
use Rattle.sg_crew.specs.declared.worker.Worker.{Worker}

abbrev pub actor_of : {A D : Type 0} → Worker A D → A
actor_of w = w.actor

abbrev pub seat_of : {A D : Type 0} → Worker A D → SeatState
seat_of w = w.seat

abbrev pub turn_of : {A D : Type 0} → Worker A D → Option Turned
turn_of w = w.turn

abbrev pub actors_of : {A D : Type 0} → List (Worker A D) → List A
actors_of ws = map actor_of ws

abbrev pub seats_of : {A D : Type 0} → List (Worker A D) → List SeatState
seats_of ws = map seat_of ws

abbrev pub turns_of : {A D : Type 0} → List (Worker A D) → List (Option Turned)
turns_of ws = map turn_of ws

-- the worker has a seat with the turns of a phase, which has seen what the first seat has
abbrev pub IsSeatDealt : {A D : Type 0} → SeatState → Worker A D → Worker A D → Type 0
IsSeatDealt first w v = (v.actor ≡ w.actor) × (v.seat ≡ fresh_desk first 1024) × (v.turns ≡ 0)
    × (v.busy ≡ 0)

abbrev pub HasStayed : {A D : Type 0} → Worker A D → Worker A D → Type 0
HasStayed w v = v.actor ≡ w.actor

-- the seat may be joined into the first one
abbrev pub MayJoin : {A D : Type 0} → HubState → Worker A D → Type 0
MayJoin hub w = IsDeskOf hub w.seat × (w.seat.joined ≡ []) × (w.busy ≤ 256)

-- how many turns of these workers did something or were idle
abbrev pub busy_of_worker : {A D : Type 0} → Worker A D → ℕ
busy_of_worker w = w.busy

abbrev pub busy_sum : {A D : Type 0} → List (Worker A D) → ℕ
busy_sum ws = total busy_of_worker ws

-- the worker hasn't taken a turn of the phase yet
abbrev pub BeginsPhase : {A D : Type 0} → Worker A D → Type 0
BeginsPhase w = (w.turns ≡ 0) × (w.busy ≡ 0) × (1024 ≤ w.seat.left)

-- the source may take a turn
pub record MayRead {R I D : Type 0} (state : I → InletState) (inlets dests : R → ℕ) (hub : HubState)
    (w : Worker (SourceActor R I) D) : Type 0 where
  pub of_hub : IsDeskOf hub w.seat
  pub left : 4 ≤ w.seat.left
  pub fits : FitsSource (setup_of hub.made) w.actor.spec (inlets w.actor.router)
      (dests w.actor.router)
  pub ready : IsReady (dests w.actor.router) w.actor.spec (source_seen state w.actor).source
  pub few : w.turns < 256
  pub busy : w.busy ≤ w.turns

-- the destination may take a turn
pub record MaySend {O D : Type 0} (state : O → OutletState) (hub : HubState)
    (w : Worker (DestActor O) D) : Type 0 where
  pub of_hub : IsDeskOf hub w.seat
  pub left : 4 ≤ w.seat.left
  pub dest : w.actor.spec.dest < length (setup_of hub.made).dests
  pub failures : HasFailures w.actor.outage (state w.actor.outlet)
  pub few : w.turns < 256
  pub busy : w.busy ≤ w.turns

-- this turn was counted
pub record IsTurnCounted {A D : Type 0} (w v : Worker A D) (turn : Turn) : Type 0 where
  pub turns : v.turns ≡ w.turns + 1
  pub busy : v.busy ≡ w.busy + one_if (is_busy turn)

-- the source took a turn
pub record ReadsOnce {R I D : Type 0} (state : I → InletState)
    (offers : R → ℕ → Record → List Offer → Type 0) (inlets dests : R → ℕ) (hub : HubState)
    (w v : Worker (SourceActor R I) D) : Type 0 where
  pub turn : Turn
  pub worked : WorkedOnce (SourceTakes state offers inlets dests w.actor v.actor)
      (OfSource w.actor.spec.inlet) hub w.seat v.seat v.turn turn
  pub counted : IsTurnCounted w v turn

-- the destination took a turn
pub record SendsOnce {O D : Type 0} (state : O → OutletState) (hub : HubState)
    (w v : Worker (DestActor O) D) : Type 0 where
  pub turn : Turn
  pub worked : WorkedOnce (DestTakes state w.actor v.actor) (OfDest w.actor.spec.dest) hub w.seat
      v.seat v.turn turn
  pub counted : IsTurnCounted w v turn

-- so many turns were counted, and of them so many that did something or were idle
pub record AreCounted {A D : Type 0} (v : Worker A D) (turns : List Turn) : Type 0 where
  pub all : length turns ≡ v.turns
  pub busy : busy_of turns ≡ v.busy
  pub few : v.turns ≤ 256

-- the source took its turns of a phase
pub record HasReadPhase {R I D : Type 0} (state : I → InletState)
    (offers : R → ℕ → Record → List Offer → Type 0) (inlets dests : R → ℕ) (hub : HubState)
    (w v : Worker (SourceActor R I) D) : Type 0 where
  pub turns : List Turn
  pub worked : WorkedWith (TookEach (SourceTakes state offers inlets dests) w.actor v.actor)
      (OfSource w.actor.spec.inlet) hub w.seat v.seat v.turn turns
  pub counted : AreCounted v turns

-- the destination took its turns of a phase
pub record HasSent {O D : Type 0} (state : O → OutletState) (hub : HubState)
    (w v : Worker (DestActor O) D) : Type 0 where
  pub turns : List Turn
  pub worked : WorkedWith (TookEach (DestTakes state) w.actor v.actor) (OfDest w.actor.spec.dest)
      hub w.seat
      v.seat v.turn turns
  pub counted : AreCounted v turns

-- as many sources and destinations, for the same setup
pub record AreCrew {R I O D : Type 0} (state : I → InletState) (inlets dests_of : R → ℕ)
    (state' : O → OutletState) (hub : HubState)
    (readers readers' : List (Worker (SourceActor R I) D))
    (senders senders' : List (Worker (DestActor O) D)) : Type 0 where
  pub sources : AreSources state inlets dests_of (setup_of hub.made) (actors_of readers')
  pub dests : AreDests state' (setup_of hub.made) (actors_of senders')
  pub all_sources : length readers' ≡ length readers
  pub all_dests : length senders' ≡ length senders
