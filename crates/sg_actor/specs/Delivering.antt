-- The steps of a destination's turn.
use Rattle.std.specs.Prelude.{◌≡◌, ◌≤◌, ◌<◌, ◌⊎◌, ℕ, ◌&&◌, not, is_ok, is_some, Bool, true, false, List, length, Result, Ok, Err}
use Rattle.sg_device.specs.Faults.{Rose}
use Rattle.sg_device.specs.Outlet.{OutletState}
use Rattle.sg_counter.specs.Exchanges.{Exchange, Makes, OfDest}
use Rattle.sg_counter.specs.declared.calls.CoreCall.{CoreCall}
use Rattle.sg_counter.specs.declared.calls.CoreCall.TheVariants.{Settle, Refill}
use Rattle.sg_counter.specs.declared.calls.CoreReply.{CoreReply}
use Rattle.sg_counter.specs.declared.calls.CoreReply.TheVariants.{Settled as SettledReply, Refilled as RefilledReply}
use Rattle.sg_counter.specs.declared.answers.Settled.{Settled}
use Rattle.sg_counter.specs.declared.answers.Refill.{Refill as Refilled}
use Rattle.sg_actor.specs.Bringing.{AllBy}
use Rattle.sg_actor.specs.Rendering.{frames_by, sent_of}
use Rattle.sg_actor.specs.Outages.{HasFailures, TakesFrames, Waits, is_idle}
use Rattle.sg_actor.specs.DestTurns.{is_breakage, is_done, after_reply, shown_in, has_shown, DeliversFront, HasGivenUpCause, IsShownEmpty}
use Rattle.sg_actor.specs.declared.outage.Outage.{Outage}
use Rattle.sg_actor.specs.declared.rendering.DestSpec.{DestSpec}
use Rattle.sg_actor.specs.declared.turned.Turned.{Turned}

-- nothing was taken, and nothing is settled
pub record SettlesNone {S : Type 0} (counter counter' : S) (taken : ℕ) (old new : Outage)
    (goes : Bool) : Type 0 where
  pub none : taken ≡ 0
  pub counter_stays : counter' ≡ counter
  pub outage_stays : new ≡ old
  pub goes_on : goes ≡ true

-- so many are settled, where the outlet told this count of frames
pub record SettlesSome {S : Type 0} (step : S → CoreCall → CoreReply → S → Type 0)
    (counter counter' : S) (d place taken count : ℕ) (old new : Outage) (goes : Bool) : Type 0 where
  pub answer : Settled
  pub some : 0 < taken
  pub made : step counter (Settle d place taken count) (SettledReply answer) counter'
  pub outage : new ≡ after_reply (is_breakage (SettledReply answer)) old
  pub goes_on : goes ≡ is_done (SettledReply answer)

abbrev pub Settles : {S : Type 0} → (S → CoreCall → CoreReply → S → Type 0) → S → S
    → (d place taken count : ℕ) → Outage → Outage → Bool → Type 0
Settles step counter counter' d place taken count old new goes =
    SettlesNone counter counter' taken old new goes
    ⊎ SettlesSome step counter counter' d place taken count old new goes

abbrev pub Refills : {S : Type 0} → (S → CoreCall → CoreReply → S → Type 0) → S → S → ℕ → Outage
    → Outage → Type 0
Refills step counter counter' d old new =
    (answer : Refilled) × (step counter (Refill d) (RefilledReply answer) counter'
    × (new ≡ after_reply (is_breakage (RefilledReply answer)) old))

-- there were entries, or the question came to this; it was too early for them, or not
abbrev pub ShowsBy : {E : Type 0} → List Exchange → Bool → Outage → Result Turned E → Type 0
ShowsBy made idle new (Ok turned) =
    (turned.idle ≡ idle) × (turned.did ≡ (has_shown made && not idle))
    × (has_shown made ≡ false → (is_some new.given_up ≡ true) ⊎ IsShownEmpty made)
ShowsBy made idle new (Err e) = Unit {0}

-- what a turn does once its outlet is open
pub record FrontTurnGives {S E : Type 0} (spec : DestSpec)
    (step : S → CoreCall → CoreReply → S → Type 0) (counter counter' : S) (new : Outage)
    (drain drain' : OutletState) (result : Result Turned E) : Type 0 where
  pub made : List Exchange
  pub taken : ℕ
  pub refused : Bool
  pub later : Bool
  pub makes : Makes step counter made counter'
  pub own : AllBy (OfDest spec.dest) made
  pub few : length made ≤ 3
  pub delivers : DeliversFront spec.dest taken drain'.count (is_ok result) made
  pub takes : TakesFrames taken (frames_by spec (shown_in made)) drain drain'
  pub within : taken ≤ length (sent_of spec (shown_in made))
  pub whole : is_ok result ≡ true → refused ≡ false → later ≡ false
      → taken ≡ length (sent_of spec (shown_in made))
  pub waits : Waits later drain drain'
  pub early : later ≡ true → has_shown made ≡ true
  pub rose : refused ≡ true → Rose drain.faults drain'.faults
  pub failures : HasFailures new drain'
  pub reopens : new.reopens ≡ refused
  pub cause : HasGivenUpCause spec.gives_up refused drain' made new.given_up
  pub shows : ShowsBy made (is_idle later taken) new result
