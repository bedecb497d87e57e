-- A turn of a source.
use Rattle.std.specs.Prelude.{◌≡◌, ◌≤◌, ◌<◌, ◌⊎◌, ℕ, ◌+◌, ◌-◌, ◌^◌, ◌||◌, ◌&&◌, not, nat_lt, min, max, drop, zero, suc, is_some, Bool, true, false, Some, None, List, [], ◌∷◌, ◌++◌, length, Result, Ok, Err}
use Rattle.sg_device.specs.Inlet.{InletState, Advances}
use Rattle.sg_msg.specs.declared.offer.Offer.{Offer}
use Rattle.sg_machine.specs.declared.setup.Setup.{Setup}
use Rattle.sg_frame.specs.Records.{Record}
use Rattle.sg_counter.specs.Bringing.{store_in}
use Rattle.sg_counter.specs.Exchanges.{Exchange, Makes, OfSource}
use Rattle.sg_counter.specs.declared.calls.CoreCall.{CoreCall}
use Rattle.sg_counter.specs.declared.calls.CoreCall.TheVariants.{Credit}
use Rattle.sg_counter.specs.declared.calls.CoreReply.{CoreReply}
use Rattle.sg_counter.specs.declared.calls.CoreReply.TheVariants.{Credit as CreditReply}
use Rattle.sg_counter.specs.declared.answers.Stored.TheVariants.{Unchanged}
use Rattle.sg_actor.specs.Reading.{one_if}
use Rattle.sg_actor.specs.Sources.{SourceState, AreOf, HasRead, IsReady}
use Rattle.sg_actor.specs.Steps.{parts_over, has_pulled, was_idle, IsInletOver, PullFails}
use Rattle.sg_actor.specs.Bringing.{exchange, AllBy, admitted_in, carried_in, has_admitted, stores_in, last_end, HasRefusal, EmptiesOn}
use Rattle.sg_actor.specs.Positions.{is_same_credit, is_due, has_news, after_stores}
use Rattle.sg_actor.specs.declared.position.Position.{Position}
use Rattle.sg_actor.specs.declared.reader.Reader.{Reader}
use Rattle.sg_actor.specs.declared.settings.SourceSpec.{SourceSpec}
use Rattle.sg_actor.specs.declared.turned.Turned.{Turned}

-- what a source keeps between its turns
pub record ActorState : Type 0 where
  pub source : SourceState
  pub position : Position
  pub bad_frames : ℕ

abbrev pub actor : InletState → Reader → List ℕ → Position → ℕ → ActorState
actor feed reader buffer position bad_frames = record {
  source = record { feed = feed; reader = reader; buffer = buffer };
  position = position;
  bad_frames = bad_frames;
}

-- the source is set up as the core and its router are
pub record FitsSource (setup : Setup) (spec : SourceSpec) (inlets dests : ℕ) : Type 0 where
  pub source : spec.inlet < length setup.sources
  pub inlet : spec.inlet < inlets
  pub same_dests : dests ≡ length setup.dests
  pub store : spec.stored ≡ is_some (store_in setup.sources spec.inlet)
  pub some : 0 < spec.fetch
  pub most : spec.fetch ≤ 1000

-- the first call is the question for the credit, which is so much
abbrev pub AsksCredit : ℕ → ℕ → List Exchange → Type 0
AsksCredit i credit [] = ⊥
AsksCredit i credit (e ∷ es) = e ≡ exchange (Credit i) (CreditReply credit)

-- a number of parts given up, and so many more: it stands still at its end
abbrev pub bad_after : ℕ → ℕ → ℕ
bad_after count zero = count
bad_after count (suc n) = min (count + suc n) (2 ^ 64 - 1)

-- A pull brought something, a record was admitted, or parts were given up; or the credit isn't that of the turn before.
abbrev pub does_some : ActorState → ActorState → List Exchange → ℕ → Bool
does_some old new made ups = has_pulled old.source new.source || has_admitted made || nat_lt 0 ups

abbrev pub rests : ActorState → ActorState → List Exchange → ℕ → ℕ → Bool
rests old new made ups credit = not (does_some old new made ups)
    && is_same_credit old.position.credit credit

-- the last answer on the position, where there is a store, is that it is the stored one, or that the store has failed
abbrev pub IsPositionStored : SourceSpec → Position → List Exchange → Type 0
IsPositionStored spec position made = spec.stored ≡ true
    → (position.broken ≡ true) ⊎ (stores_in made ≡ Unchanged ∷ [])

-- In an empty turn the source was refused credit, or the inlet has ended or failed and all that it gave is dealt with.
pub record IsEmptyTurn (spec : SourceSpec) (new : ActorState) (made : List Exchange) : Type 0 where
  pub over : HasRefusal made ⊎ IsInletOver new.source.reader
  pub stored : IsPositionStored spec new.position made

pub record TellsTurn (spec : SourceSpec) (old new : ActorState) (made : List Exchange)
    (ups credit : ℕ) (turned : Turned) : Type 0 where
  pub did : turned.did ≡ (not (rests old new made ups credit) || has_news (stores_in made))
  pub idle : turned.idle ≡ was_idle old.source new.source
  pub asks : length (stores_in made) ≡ one_if
      (spec.stored && is_due old.position (rests old new made ups credit) new.source.reader.end)
  pub empty : turned.did ≡ false → turned.idle ≡ false → IsEmptyTurn spec new made

abbrev pub TellsSource : {E : Type 0} → SourceSpec → ActorState → ActorState → List Exchange → ℕ → ℕ
    → Result Turned E → Type 0
TellsSource spec old new made ups credit (Ok turned) = TellsTurn spec old new made ups credit turned
TellsSource spec old new made ups credit (Err e) = Unit {0}

-- A turn makes these calls, and gives up so many parts. Also where memory ran out the records that it admitted are the next ones that the
-- inlet gave, in order, and those behind them are still to come.
pub record TurnsWith {S E : Type 0} (offers : ℕ → Record → List Offer → Type 0) (dests : ℕ)
    (spec : SourceSpec) (step : S → CoreCall → CoreReply → S → Type 0) (counter counter' : S)
    (old new : ActorState) (result : Result Turned E) (made : List Exchange)
    (ups credit : ℕ) : Type 0 where
  pub makes : Makes step counter made counter'
  pub own : AllBy (OfSource spec.inlet) made
  pub few : length made ≤ 4
  pub asks : AsksCredit spec.inlet credit made
  pub ready : IsReady dests spec new.source
  pub advances : Advances old.source.feed new.source.feed
  pub failing : PullFails old.source.reader.failed new.source.reader.failed old.source.feed.faults
      new.source.feed.faults
  -- an inlet that has ended isn't begun anew
  pub ended : old.source.reader.ended ≡ true → new.source.reader.ended ≡ true
  pub pulls : new.source.feed.pulls ≤ old.source.feed.pulls + 1
  pub admits : (done : List Record) (before : ℕ) → HasRead offers spec old.source done before
      → (taken : List Record) × (AreOf offers spec taken (admitted_in made)
      × HasRead offers spec new.source (done ++ taken) (before + ups))
  pub fetched : length (admitted_in made) ≤ spec.fetch
  -- Records are brought in the second call alone, no more than the credit unless more were held; and none is held behind the turn, unless
  -- memory ran out.
  pub brings : carried_in (drop 2 made) ≡ []
  pub within : length (carried_in made) ≤ max (length old.source.reader.held) credit
  pub empties : EmptiesOn credit old.source.reader new.source.reader made result
  pub end : new.source.reader.end ≡ last_end old.source.reader.end (admitted_in made)
  -- a part is given up once
  pub one : ups ≤ 1
  pub parts : ups + parts_over old.source.reader.given_up old.source.feed.parts
      ≤ parts_over new.source.reader.given_up new.source.feed.parts
  pub bad : new.bad_frames ≡ bad_after old.bad_frames ups
  pub position : new.position ≡ after_stores new.source.reader.end (stores_in made)
      (record old.position { credit = Some credit })
  pub tells : TellsSource spec old new made ups credit result

abbrev pub TakesTurn : {S E : Type 0} → (ℕ → Record → List Offer → Type 0) → ℕ → SourceSpec
    → (S → CoreCall → CoreReply → S → Type 0) → S → S → ActorState → ActorState → Result Turned E
    → Type 0
TakesTurn offers dests spec step counter counter' old new result =
    (made : List Exchange) × ((ups : ℕ) × ((credit : ℕ)
    × TurnsWith offers dests spec step counter counter' old new result made ups credit))

-- nothing was read yet
pub record IsNewSource (offers : ℕ → Record → List Offer → Type 0) (dests : ℕ) (spec : SourceSpec)
    (s : ActorState) : Type 0 where
  pub ready : IsReady dests spec s.source
  pub reads : HasRead offers spec s.source [] 0
  pub held : s.source.reader.held ≡ []
  pub going : (s.source.reader.ended ≡ false) × (s.source.reader.failed ≡ false)
  pub end : s.source.reader.end ≡ spec.from
  pub first : s.position.credit ≡ None
  pub asked : s.position.asked ≡ spec.from
  pub works : s.position.broken ≡ false
  pub bad : s.bad_frames ≡ 0
