-- The credit of a source, from its question until it brings records.
use Rattle.std.specs.Prelude.{◌≡◌, ◌≤◌, ℕ, false, Result, List, [], ◌∷◌, ◌++◌, length}
use Rattle.sg_machine.specs.declared.event.Admission.{Admission}
use Rattle.sg_machine.specs.declared.event.Event.{Event}
use Rattle.sg_machine.specs.declared.event.Verdict.{Verdict}
use Rattle.sg_machine.specs.declared.state.State.{State}
use Rattle.sg_counter.specs.Exchanges.{Exchange, OfSource, calls_by}
use Rattle.sg_counter.specs.declared.answers.Refused.{Refused}
use Rattle.sg_counter.specs.declared.calls.CoreCall.TheVariants.{Credit, Admit}
use Rattle.sg_counter.specs.declared.calls.CoreReply.TheVariants.{Credit as CreditReply, Admitted}
use Rattle.sg_standing.specs.States.{CoreState}
use Rattle.sg_core.specs.Answers.{is_no_credit}
use Rattle.sg_laws.specs.Calls.{Ran}

-- two calls, one behind the other: the source was told its credit, and brought records
abbrev pub asked_then_brought : (i credit : ℕ) → List Admission → Result (List Verdict) Refused
    → List Exchange
asked_then_brought i credit records answer =
    record { call = Credit i; reply = CreditReply credit }
    ∷ record { call = Admit i records; reply = Admitted answer } ∷ []

-- whatever others call in between, a source that brings no more records than it was told isn't refused for lack of credit
abbrev pub CreditLasts : Type 0
CreditLasts =
    (old new : CoreState) (made : List Exchange) (start : State) (before events : List Event)
    (i : ℕ) → Ran old new made start before events
    → (earlier later : List Exchange) (credit : ℕ) (records : List Admission)
    (answer : Result (List Verdict) Refused)
    → calls_by (OfSource i) made ≡ earlier ++ (asked_then_brought i credit records answer ++ later)
    → length records ≤ credit → is_no_credit answer ≡ false
