-- A turn over any counter, told without the counter.
use Rattle.std.proofs.Common.{◌≡◌, ℕ, Bool, true, false, List, [], ◌∷◌, ◌++◌, refl, ap, ◌∙◌, Option, Some, None}
use Rattle.std.proofs.lemmas.Bool.{eq-eqb, ne_eqb, cond-true, cond-false}
use Rattle.std.proofs.lemmas.List.Elements.{filter-append}
use Rattle.std.specs.Prelude.{Ok, Err, Result}
use Rattle.sg_device.specs.Outlet.{OutletState}
use Rattle.sg_msg.specs.declared.offer.Offer.{Offer}
use Rattle.sg_frame.specs.Records.{Record}
use Rattle.sg_counter.specs.Exchanges.{Exchange, Makes, Caller, OfSource, OfDest, caller_of, same_caller, calls_by}
use Rattle.sg_counter.specs.declared.calls.CoreCall.{CoreCall}
use Rattle.sg_counter.specs.declared.calls.CoreReply.{CoreReply}
use Rattle.sg_actor.specs.Bringing.{AllBy}
use Rattle.sg_actor.specs.SourceTurns.{ActorState, TurnsWith, TakesTurn}
use Rattle.sg_actor.specs.DestTurns.{SendsWith, SendsByCause as ActorSendsBy, SendsTurn, StaysGivenUp}
use Rattle.sg_actor.specs.declared.outage.Outage.{Outage}
use Rattle.sg_actor.specs.declared.rendering.DestSpec.{DestSpec}
use Rattle.sg_actor.specs.declared.settings.SourceSpec.{SourceSpec}
use Rattle.sg_actor.specs.declared.turned.GivenUp.{GivenUp}
use Rattle.sg_actor.specs.declared.turned.Turned.{Turned}
use Rattle.sg_turns.specs.Turns.{Turn, answer_of, result_of, any_step, SourceTurns, dest_state, SendsBy, DestTurns}

-- Calls one after another.

pub any-makes : (made : List Exchange) → Makes any_step (tt {0}) made (tt {0})
any-makes [] = refl
any-makes (e ∷ es) = (tt, tt, any-makes es)

pub calls-append : (who : Caller) (xs ys : List Exchange) → calls_by who (xs ++ ys) ≡ calls_by who xs ++ calls_by who ys
calls-append who xs ys = filter-append (λ exchange. same_caller who (caller_of exchange.call)) xs ys

pub same-self : (who : Caller) → same_caller who who ≡ true
same-self (OfSource i) = eq-eqb i i refl
same-self (OfDest d) = eq-eqb d d refl

pub other-caller : (who c : Caller) → (c ≡ who → ⊥) → same_caller c who ≡ false
other-caller (OfSource i) (OfSource j) h = ne_eqb j i (λ e. h (ap OfSource e))
other-caller (OfSource i) (OfDest d) h = refl
other-caller (OfDest d) (OfSource i) h = refl
other-caller (OfDest d) (OfDest e) h = ne_eqb e d (λ q. h (ap OfDest q))

pub own-calls : (who : Caller) (made : List Exchange) → AllBy who made → calls_by who made ≡ made
own-calls who [] h = refl
own-calls who (e ∷ es) h =
    let own : same_caller who (caller_of e.call) ≡ true = ap (λ c. same_caller who c) h.0 ∙ same-self who in
    let rest = own-calls who es h.1 in
    cond-true (same_caller who (caller_of e.call)) (e ∷ calls_by who es) (calls_by who es) own ∙ ap (λ l. e ∷ l) rest

pub other-calls : (who c : Caller) (made : List Exchange) → (c ≡ who → ⊥) → AllBy who made → calls_by c made ≡ []
other-calls who c [] differ h = refl
other-calls who c (e ∷ es) differ h =
    let other : same_caller c (caller_of e.call) ≡ false = ap (λ w. same_caller c w) h.0 ∙ other-caller who c differ in
    cond-false (same_caller c (caller_of e.call)) (e ∷ calls_by c es) (calls_by c es) other ∙ other-calls who c es differ h.1

-- what a turn is, and what it did to its counter
pub record TurnIs {S E : Type 0} (step : S → CoreCall → CoreReply → S → Type 0) (counter counter' : S) (result : Result Turned E) (who : Caller) (takes : Turn → Type 0) : Type 0 where
  pub turn : Turn
  pub takes_it : takes turn
  pub makes : Makes step counter turn.made counter'
  pub own : AllBy who turn.made
  pub answer : turn.answer ≡ answer_of result

source-any : {S E : Type 0} (offers : ℕ → Record → List Offer → Type 0) (dests : ℕ) (spec : SourceSpec) (step : S → CoreCall → CoreReply → S → Type 0) (counter counter' : S)
    (old new : ActorState) (result : Result Turned E) (made : List Exchange) (ups credit : ℕ)
    → TurnsWith offers dests spec step counter counter' old new result made ups credit
    → TurnsWith offers dests spec any_step (tt {0}) (tt {0}) old new (result_of (answer_of result)) made ups credit
source-any offers dests spec step counter counter' old new (Ok turned) made ups credit h = record {
  makes = any-makes made;
  own = h.own;
  few = h.few;
  asks = h.asks;
  ready = h.ready;
  advances = h.advances;
  failing = h.failing;
  ended = h.ended;
  pulls = h.pulls;
  admits = h.admits;
  fetched = h.fetched;
  brings = h.brings;
  within = h.within;
  empties = h.empties;
  end = h.end;
  one = h.one;
  parts = h.parts;
  bad = h.bad;
  position = h.position;
  tells = h.tells;
}
source-any offers dests spec step counter counter' old new (Err e) made ups credit h = record {
  makes = any-makes made;
  own = h.own;
  few = h.few;
  asks = h.asks;
  ready = h.ready;
  advances = h.advances;
  failing = h.failing;
  ended = h.ended;
  pulls = h.pulls;
  admits = h.admits;
  fetched = h.fetched;
  brings = h.brings;
  within = h.within;
  empties = tt;
  end = h.end;
  one = h.one;
  parts = h.parts;
  bad = h.bad;
  position = h.position;
  tells = tt;
}

pub source-turn : {S E : Type 0} (offers : ℕ → Record → List Offer → Type 0) (dests : ℕ) (spec : SourceSpec) (step : S → CoreCall → CoreReply → S → Type 0) (counter counter' : S)
    (old new : ActorState) (result : Result Turned E)
    → TakesTurn offers dests spec step counter counter' old new result
    → TurnIs step counter counter' result (OfSource spec.inlet) (SourceTurns offers dests spec old new)
source-turn offers dests spec step counter counter' old new result (made, (ups, (credit, h))) = record {
  turn = record { made = made; answer = answer_of result };
  takes_it = record { ups = ups; credit = credit; takes = source-any offers dests spec step counter counter' old new result made ups credit h };
  makes = h.makes;
  own = h.own;
  answer = refl;
}

dest-any : {S E : Type 0} (spec : DestSpec) (step : S → CoreCall → CoreReply → S → Type 0) (counter counter' : S) (old new : Outage) (drain drain' : OutletState)
    (result : Result Turned E) (made : List Exchange) (taken : ℕ) (refused : Bool)
    → SendsWith spec step counter counter' old new drain drain' result made taken refused
    → SendsWith spec any_step (tt {0}) (tt {0}) old new drain drain' (result_of (answer_of result)) made taken refused
dest-any spec step counter counter' old new drain drain' (Ok turned) made taken refused h = record {
  makes = any-makes made;
  own = h.own;
  few = h.few;
  delivers = h.delivers;
  takes = h.takes;
  within = h.within;
  whole = h.whole;
  laters = h.laters;
  early = h.early;
  rose = h.rose;
  failures = h.failures;
  reopens = h.reopens;
  cause = h.cause;
  tells = h.tells;
}
dest-any spec step counter counter' old new drain drain' (Err e) made taken refused h = record {
  makes = any-makes made;
  own = h.own;
  few = h.few;
  delivers = h.delivers;
  takes = h.takes;
  within = h.within;
  whole = h.whole;
  laters = h.laters;
  early = h.early;
  rose = h.rose;
  failures = h.failures;
  reopens = h.reopens;
  cause = h.cause;
  tells = tt;
}

stays-any : {S E : Type 0} (counter counter' : S) (old new : Outage) (drain drain' : OutletState) (result : Result Turned E)
    → StaysGivenUp counter counter' old new drain drain' result → StaysGivenUp (tt {0}) (tt {0}) old new drain drain' (result_of (answer_of result))
stays-any counter counter' old new drain drain' result h = record {
  counter_stays = refl;
  outage_stays = h.outage_stays;
  drain_stays = h.drain_stays;
  nothing = ap (λ r. result_of (answer_of r)) h.nothing;
}

dest-by : {S E : Type 0} (cause : Option GivenUp) (spec : DestSpec) (step : S → CoreCall → CoreReply → S → Type 0) (counter counter' : S) (old new : Outage) (drain drain' : OutletState)
    (result : Result Turned E)
    → ActorSendsBy cause spec step counter counter' old new drain drain' result
    → TurnIs step counter counter' result (OfDest spec.dest) (SendsBy cause spec (dest_state old drain) (dest_state new drain'))
dest-by None spec step counter counter' old new drain drain' result (made, (taken, (refused, h))) = record {
  turn = record { made = made; answer = answer_of result };
  takes_it = (taken, (refused, dest-any spec step counter counter' old new drain drain' result made taken refused h));
  makes = h.makes;
  own = h.own;
  answer = refl;
}
dest-by (Some cause) spec step counter counter' old new drain drain' result h = record {
  turn = record { made = []; answer = answer_of result };
  takes_it = (refl, stays-any counter counter' old new drain drain' result h);
  makes = h.counter_stays;
  own = tt;
  answer = refl;
}

pub dest-turn : {S E : Type 0} (spec : DestSpec) (step : S → CoreCall → CoreReply → S → Type 0) (counter counter' : S) (old new : Outage) (drain drain' : OutletState)
    (result : Result Turned E)
    → SendsTurn spec step counter counter' old new drain drain' result
    → TurnIs step counter counter' result (OfDest spec.dest) (DestTurns spec (dest_state old drain) (dest_state new drain'))
dest-turn spec step counter counter' old new drain drain' result h = dest-by old.given_up spec step counter counter' old new drain drain' result h
