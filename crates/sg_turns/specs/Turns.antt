-- The turns of an actor, one after the other, and nothing of the others'.
use Rattle.std.specs.Prelude.{◌≡◌, ℕ, Bool, Option, Some, None, List, [], ◌∷◌, ◌++◌, Result, Ok, Err}
use Rattle.sg_device.specs.Outlet.{OutletState}
use Rattle.sg_msg.specs.declared.offer.Offer.{Offer}
use Rattle.sg_frame.specs.Records.{Record}
use Rattle.sg_counter.specs.Exchanges.{Exchange}
use Rattle.sg_counter.specs.declared.calls.CoreCall.{CoreCall}
use Rattle.sg_counter.specs.declared.calls.CoreReply.{CoreReply}
use Rattle.sg_actor.specs.SourceTurns.{ActorState, TurnsWith}
use Rattle.sg_actor.specs.DestTurns.{SendsWith, StaysGivenUp}
use Rattle.sg_actor.specs.declared.outage.Outage.{Outage}
use Rattle.sg_actor.specs.declared.rendering.DestSpec.{DestSpec}
use Rattle.sg_actor.specs.declared.settings.SourceSpec.{SourceSpec}
use Rattle.sg_actor.specs.declared.turned.GivenUp.{GivenUp}
use Rattle.sg_actor.specs.declared.turned.Turned.{Turned}

-- the calls that a turn made, and what it came to, None where it found no memory
pub record Turn : Type 0 where
  pub made : List Exchange
  pub answer : Option Turned

abbrev pub answer_of : {E : Type 0} → Result Turned E → Option Turned
answer_of (Ok turned) = Some turned
answer_of (Err e) = None

abbrev pub result_of : Option Turned → Result Turned (Unit {0})
result_of (Some turned) = Ok turned
result_of None = Err tt

-- the calls of these turns
abbrev pub calls_of : List Turn → List Exchange
calls_of [] = []
calls_of (turn ∷ turns) = turn.made ++ calls_of turns

-- What is said of an actor alone leaves the counter out: any reply may come.
abbrev pub any_step : Unit {0} → CoreCall → CoreReply → Unit {0} → Type 0
any_step old call reply new = Unit {0}

-- a turn of a source, which gave up so many parts and was told this credit
pub record SourceTurns (offers : ℕ → Record → List Offer → Type 0) (dests : ℕ) (spec : SourceSpec)
    (old new : ActorState) (turn : Turn) : Type 0 where
  pub ups : ℕ
  pub credit : ℕ
  pub takes : TurnsWith offers dests spec any_step (tt {0}) (tt {0}) old new (result_of turn.answer)
      turn.made ups credit

-- turns of a source, one after the other
abbrev pub TookTurns : (ℕ → Record → List Offer → Type 0) → ℕ → SourceSpec → ActorState → ActorState
    → List Turn → Type 0
TookTurns offers dests spec old new [] = new ≡ old
TookTurns offers dests spec old new (turn ∷ turns) =
    (between : ActorState) ×
    (SourceTurns offers dests spec old between turn × TookTurns offers dests spec between new turns)

-- what a destination knows of its outlet's failures, and the outlet
pub record DestState : Type 0 where
  pub outage : Outage
  pub drain : OutletState

abbrev pub dest_state : Outage → OutletState → DestState
dest_state outage drain = record { outage = outage; drain = drain }

-- a turn of a destination: one that is given up makes no call
abbrev pub SendsBy : Option GivenUp → DestSpec → DestState → DestState → Turn → Type 0
SendsBy None spec old new turn =
    (taken : ℕ) × ((refused : Bool) × SendsWith spec any_step (tt {0}) (tt {0}) old.outage
    new.outage old.drain new.drain (result_of turn.answer) turn.made taken refused)
SendsBy (Some cause) spec old new turn = (turn.made ≡ [])
    × StaysGivenUp (tt {0}) (tt {0}) old.outage new.outage old.drain new.drain
    (result_of turn.answer)

abbrev pub DestTurns : DestSpec → DestState → DestState → Turn → Type 0
DestTurns spec old new turn = SendsBy old.outage.given_up spec old new turn

-- turns of a destination, one after the other
abbrev pub SentTurns : DestSpec → DestState → DestState → List Turn → Type 0
SentTurns spec old new [] = new ≡ old
SentTurns spec old new (turn ∷ turns) = (between : DestState)
    × (DestTurns spec old between turn × SentTurns spec between new turns)
