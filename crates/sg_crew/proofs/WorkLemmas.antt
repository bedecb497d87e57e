-- A turn at a seat that is lent.
use Rattle.std.proofs.Common.{arith, ◌≡◌, ◌≤◌, ℕ, List, [], ◌∷◌, length, ap, ◌∙◌, subst, Option, Some, None, Bor}
use Rattle.std.specs.Prelude.{Result}
use Rattle.sg_device.specs.Outlet.{OutletState}
use Rattle.sg_msg.specs.declared.offer.Offer.{Offer}
use Rattle.sg_frame.specs.Records.{Record}
use Rattle.sg_counter.specs.Exchanges.{Exchange, Makes, Caller, OfSource, OfDest}
use Rattle.sg_counter.specs.declared.calls.CoreCall.{CoreCall}
use Rattle.sg_counter.specs.declared.calls.CoreReply.{CoreReply}
use Rattle.sg_actor.specs.Bringing.{AllBy}
use Rattle.sg_actor.specs.SourceTurns.{ActorState, TakesTurn}
use Rattle.sg_actor.specs.DestTurns.{SendsTurn}
use Rattle.sg_actor.specs.declared.outage.Outage.{Outage}
use Rattle.sg_actor.specs.declared.rendering.DestSpec.{DestSpec}
use Rattle.sg_actor.specs.declared.settings.SourceSpec.{SourceSpec}
use Rattle.sg_actor.specs.declared.turned.GivenUp.{GivenUp}
use Rattle.sg_actor.specs.declared.turned.Turned.{Turned}
use Rattle.sg_turns.specs.Turns.{Turn, answer_of, SourceTurns, DestState, dest_state, SendsBy, DestTurns}
use Rattle.sg_turns.proofs.TurnLemmas.{TurnIs, source-turn, dest-turn}
use Rattle.sg_hub.specs.Counts.{CountsCall}
use Rattle.sg_hub.specs.Seats.{HubState, SeatState, SeatStep}
use Rattle.sg_hub.specs.declared.seat.HubSeat.{HubSeat}
use Rattle.sg_hub.proofs.Seated.{same-seat}

-- a destination's turn makes few calls
dest-few : (cause : Option GivenUp) (spec : DestSpec) (x y : DestState) (turn : Turn) → SendsBy cause spec x y turn → length turn.made ≤ 4
dest-few None spec x y turn (taken, (refused, k)) = k.few
dest-few (Some cause) spec x y turn k = let e = ap length k.0 in omega (arith, e)

-- a call at a seat that is lent
abbrev pub AtSeat : (D : Type 0) → HubSeat D → CoreCall → CoreReply → HubSeat D → Type 0
AtSeat D old call reply new = (new.seat.ghost_name ≡ old.seat.ghost_name) × (new.passed.ghost_name ≡ old.passed.ghost_name) × (new.hub ≡ old.hub) × SeatStep old.hub.now old.seat.now call reply new.seat.now
    × CountsCall call reply old.passed.now new.passed.now

-- what a call there makes of the counts
abbrev counted-at : (D : Type 0) → HubSeat D → CoreCall → CoreReply → HubSeat D → Type 0
counted-at D old call reply new = CountsCall call reply old.passed.now new.passed.now

-- what is known of a turn at a seat that was lent: the seat comes back, and what counts at it, as `same` says, and the turn's calls are its own
pub record IsLent (same : Type 0) (hub : HubState) (old new : SeatState) (who : Caller) (takes : Turn → Type 0) (answer : Option Turned) : Type 0 where
  pub back : same
  pub turn : Turn
  pub took : takes turn
  pub makes : Makes (SeatStep hub) old turn.made new
  pub own : AllBy who turn.made
  pub few : length turn.made ≤ 4
  pub answered : turn.answer ≡ answer

module _ {S N P E : Type 0} (name : S → N) (other : S → P) (hub : S → Bor HubState) (seat : S → SeatState) (noted : S → CoreCall → CoreReply → S → Type 0) where
  lent-is : (old new : S) (result : Result Turned E) (who : Caller) (takes : Turn → Type 0) → ((turn : Turn) → takes turn → length turn.made ≤ 4)
      → TurnIs (λ (a : S) call reply (b : S). (name b ≡ name a) × (other b ≡ other a) × (hub b ≡ hub a) × SeatStep (hub a).now (seat a) call reply (seat b) × noted a call reply b) old new result who takes
      → IsLent ((name new ≡ name old) × (other new ≡ other old)) (hub old).now (seat old) (seat new) who takes (answer_of result)
  lent-is old new result who takes few t =
      let s = same-seat name other hub seat noted old new t.turn.made t.makes in
      record { back = s.0; turn = t.turn; took = t.takes_it; makes = s.1.1; own = t.own; few = few t.turn t.takes_it; answered = t.answer }

pub read-lent : {D E : Type 0} (offers : ℕ → Record → List Offer → Type 0) (dests : ℕ) (spec : SourceSpec) (a b : HubSeat D) (old new : ActorState) (result : Result Turned E)
    → TakesTurn offers dests spec (AtSeat D) a b old new result
    → IsLent ((b.seat.ghost_name ≡ a.seat.ghost_name) × (b.passed.ghost_name ≡ a.passed.ghost_name)) a.hub.now a.seat.now b.seat.now (OfSource spec.inlet) (SourceTurns offers dests spec old new) (answer_of result)
read-lent {D} offers dests spec a b old new result h =
    lent-is (λ (x : HubSeat D). x.seat.ghost_name) (λ (x : HubSeat D). x.passed.ghost_name) (λ (x : HubSeat D). x.hub) (λ (x : HubSeat D). x.seat.now) (counted-at D) a b result (OfSource spec.inlet) (SourceTurns offers dests spec old new)
    (λ turn t. t.takes.few) (source-turn offers dests spec (AtSeat D) a b old new result h)

pub send-lent : {D E : Type 0} (spec : DestSpec) (a b : HubSeat D) (old new : Outage) (drain drain' : OutletState) (result : Result Turned E)
    → SendsTurn spec (AtSeat D) a b old new drain drain' result
    → IsLent ((b.seat.ghost_name ≡ a.seat.ghost_name) × (b.passed.ghost_name ≡ a.passed.ghost_name)) a.hub.now a.seat.now b.seat.now (OfDest spec.dest) (DestTurns spec (dest_state old drain) (dest_state new drain')) (answer_of result)
send-lent {D} spec a b old new drain drain' result h =
    lent-is (λ (x : HubSeat D). x.seat.ghost_name) (λ (x : HubSeat D). x.passed.ghost_name) (λ (x : HubSeat D). x.hub) (λ (x : HubSeat D). x.seat.now) (counted-at D) a b result (OfDest spec.dest)
    (DestTurns spec (dest_state old drain) (dest_state new drain'))
    (λ turn t. dest-few old.given_up spec (dest_state old drain) (dest_state new drain') turn t) (dest-turn spec (AtSeat D) a b old new drain drain' result h)
