-- What holds of every run.
use Rattle.std.specs.Prelude.{◌≡◌, ℕ, true, Some, List, ◌++◌, slice_get}
use Rattle.sg_msg.specs.Message.{Content}
use Rattle.sg_msg.specs.declared.offer.Offer.{Offer}
use Rattle.sg_frame.specs.Records.{Record}
use Rattle.sg_machine.specs.declared.event.Event.{Event}
use Rattle.sg_machine.specs.declared.state.Dest.{Dest}
use Rattle.sg_machine.specs.declared.state.State.{State}
use Rattle.sg_machine.specs.Counts.{WithinWindows}
use Rattle.sg_machine.specs.Runs.{after_all, are_legal}
use Rattle.sg_counter.specs.Exchanges.{Exchange, OfSource, calls_by}
use Rattle.sg_standing.specs.States.{CoreState}
use Rattle.sg_actor.specs.Bringing.{admitted_in}
use Rattle.sg_actor.specs.Sources.{SourceState, AreOf, HasRead, IsReady}
use Rattle.sg_actor.specs.declared.settings.SourceSpec.{SourceSpec}
use Rattle.sg_laws.specs.Calls.{Ran}
use Rattle.sg_laws.specs.Fronts.{IsDestThroughout}
use Rattle.sg_laws.specs.Texts.{admissions_of, taken_from, records_given, TakesTexts, TakesFirstTexts}

-- where these records, with their offers, are what came in of an inlet, each destination has taken of it, in order, a prefix of
-- exactly their texts, less the dropped ones
abbrev pub TextsAreTaken : (ℕ → Record → List Offer → Type 0) → Type 0
TextsAreTaken offers =
    (frame : ℕ → Content → List ℕ) (start : State) (events : List Event) (spec : SourceSpec)
    (done : List Record) (d : ℕ) (old : Dest) → are_legal start events ≡ true
    → AreOf offers spec done (admissions_of spec.inlet events) → slice_get start.dests d ≡ Some old
    → (new : Dest) × ((slice_get (after_all start events).dests d ≡ Some new)
    × TakesTexts offers frame spec.inlet d done events (taken_from frame spec.inlet d old new)
    new.left)

-- In a run of the core each destination takes of each source, in order, a prefix of exactly the texts of the first records that its inlet
-- gave, each record alone, less the dropped ones: the source brought these records itself, and what it has read is behind them.
abbrev pub TextsAreFirst : (ℕ → Record → List Offer → Type 0) → Type 0
TextsAreFirst offers =
    (old new : CoreState) (made : List Exchange) (start : State) (before events : List Event)
    (d : ℕ) (first last : Dest) → Ran old new made start before events
    → IsDestThroughout start before events d first last
    → (frame : ℕ → Content → List ℕ) (spec : SourceSpec) (done : List Record) (dests ups : ℕ)
    (s : SourceState) → AreOf offers spec done (admitted_in (calls_by (OfSource spec.inlet) made))
    → IsReady dests spec s → HasRead offers spec s done ups
    → TakesFirstTexts offers frame spec.inlet d
    (records_given spec s.feed) events (taken_from frame spec.inlet d first last) last.left

-- after every prefix of the events no more records are outstanding than the windows have
abbrev pub StayWithin : State → List Event → Type 0
StayWithin start events = (before later : List Event) → events ≡ before ++ later
    → WithinWindows (after_all start before)
