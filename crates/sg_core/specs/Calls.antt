-- What the calls of a core come to, by their replies.
use Rattle.std.specs.Prelude.{◌≡◌, ◌<◌, ◌↔◌, ℕ, true, Some, Result, Ok, MatchResult, IfOk, IfErr, OnErr, List, [], ◌∷◌, ◌++◌, length, slice_get}
use Rattle.sg_machine.specs.declared.event.Act.{Act}
use Rattle.sg_machine.specs.declared.event.Act.TheVariants.{Admit as AdmitAct, Look}
use Rattle.sg_machine.specs.declared.event.Admission.{Admission}
use Rattle.sg_machine.specs.declared.event.Verdict.{Verdict}
use Rattle.sg_machine.specs.declared.state.Dest.{Dest}
use Rattle.sg_machine.specs.declared.state.State.{State}
use Rattle.sg_counter.specs.Bringing.{records_back}
use Rattle.sg_counter.specs.Exchanges.{Exchange}
use Rattle.sg_counter.specs.declared.answers.CoreFront.{CoreFront}
use Rattle.sg_counter.specs.declared.answers.Refill.{Refill}
use Rattle.sg_counter.specs.declared.answers.Refused.{Refused}
use Rattle.sg_counter.specs.declared.answers.Settled.{Settled}
use Rattle.sg_counter.specs.declared.answers.Stored.{Stored}
use Rattle.sg_counter.specs.declared.calls.CoreCall.{CoreCall}
use Rattle.sg_counter.specs.declared.calls.CoreCall.TheVariants.{Credit, Admit, Front, Settle, Refill as RefillCall, Store}
use Rattle.sg_counter.specs.declared.calls.CoreReply.{CoreReply}
use Rattle.sg_counter.specs.declared.calls.CoreReply.TheVariants.{Credit as CreditReply, Admitted, Front as FrontReply, Settled as SettledReply, Refilled, Stored as StoredReply}
use Rattle.sg_stores.specs.Positions.{WritesAt}
use Rattle.sg_standing.specs.Sources.{credit_at, mark_in, store_at}
use Rattle.sg_standing.specs.States.{CoreState, counted}
use Rattle.sg_standing.specs.Standing.{IsAt, DoesAct}
use Rattle.sg_core.specs.Answers.{credit_left, settle_act, refill_act, store_act, is_no_credit, can_settle_at, broken_at, OnNotFront, AnswersStore, AnswersSettle, AnswersFrontAt, ShowsLeft, RefillsAt}

-- the credit is told: that changes nothing, and is no event
pub record HasTold (old : CoreState) (i credit : ℕ) (new : CoreState) : Type 0 where
  pub same : new ≡ old
  pub value : credit ≡ credit_at old.sources i
  pub stands : (state : State) → IsAt old state → credit ≡ credit_left state i

abbrev pub CreditGives : CoreState → ℕ → CoreReply → CoreState → Type 0
CreditGives old i (CreditReply credit) new = HasTold old i credit new
CreditGives old i reply new = ⊥

-- records come in; or they don't, and come back
pub record HasAdmitted (old : CoreState) (i : ℕ) (records : List Admission)
    (result : Result (List Verdict) Refused) (new : CoreState) : Type 0 where
  pub does : MatchResult result (λ verdicts. DoesAct old new (AdmitAct i records verdicts))
      (λ _. DoesAct old new Look)
  pub no_credit : (is_no_credit result ≡ true) ↔ (credit_at old.sources i < length records)
  pub back : IfErr result (λ refused. records_back refused ≡ records)
  pub err : OnErr result (new ≡ counted old)

abbrev pub AdmitGives : CoreState → ℕ → List Admission → CoreReply → CoreState → Type 0
AdmitGives old i records (Admitted result) new = HasAdmitted old i records result new
AdmitGives old i records reply new = ⊥

-- the first entries are shown
pub record HasShown {E : Type 0} (old : CoreState) (d most : ℕ) (result : Result CoreFront E)
    (new : CoreState) : Type 0 where
  pub does : DoesAct old new Look
  pub front : IfOk result (AnswersFrontAt (slice_get old.sinks d) (slice_get new.sinks d) most)
  pub shows : IfOk result (λ front. (state : State) (dest : Dest) → IsAt old state
      → slice_get state.dests d ≡ Some dest → ShowsLeft old.stores dest front)
  pub err : OnErr result (new.sinks ≡ old.sinks)

abbrev pub FrontGives : CoreState → ℕ → ℕ → CoreReply → CoreState → Type 0
FrontGives old d most (FrontReply result) new = HasShown old d most result new
FrontGives old d most reply new = ⊥

-- the first entries are settled, where the first has this place and so many are left
pub record HasSettled (old : CoreState) (d place n : ℕ) (result : Settled)
    (new : CoreState) : Type 0 where
  pub does : DoesAct old new (settle_act d n result)
  pub answer : AnswersSettle (can_settle_at old.sinks d place n) (broken_at new.sinks d) result
  pub same : OnNotFront result (new ≡ counted old)

abbrev pub SettleGives : CoreState → ℕ → ℕ → ℕ → CoreReply → CoreState → Type 0
SettleGives old d place n (SettledReply result) new = HasSettled old d place n result new
SettleGives old d place n reply new = ⊥

-- the first entries that wait are moved
pub record HasRefilled (old : CoreState) (d : ℕ) (result : Refill) (new : CoreState) : Type 0 where
  pub does : DoesAct old new (refill_act d result)
  pub answer : RefillsAt (slice_get old.sinks d) (slice_get new.sinks d) result

abbrev pub RefillGives : CoreState → ℕ → CoreReply → CoreState → Type 0
RefillGives old d (Refilled result) new = HasRefilled old d result new
RefillGives old d reply new = ⊥

-- the mark is stored
pub record HasStored (old : CoreState) (i : ℕ) (result : Stored) (new : CoreState) : Type 0 where
  pub does : DoesAct old new (store_act i result)
  pub writes : (s : ℕ) → store_at old.sources i ≡ Some s
      → WritesAt old.stores new.stores s (mark_in old.sources i) result
  pub answer : (s : ℕ) → store_at old.sources i ≡ Some s → AnswersStore (mark_in old.sources i)
      (slice_get old.stores s) (slice_get new.stores s) result

abbrev pub StoreGives : CoreState → ℕ → CoreReply → CoreState → Type 0
StoreGives old i (StoredReply result) new = HasStored old i result new
StoreGives old i reply new = ⊥

-- from the first state the call gets this reply, and leaves the second state
abbrev pub Serves : CoreState → CoreCall → CoreReply → CoreState → Type 0
Serves old (Credit i) reply new = CreditGives old i reply new
Serves old (Admit i records) reply new = AdmitGives old i records reply new
Serves old (Front d most) reply new = FrontGives old d most reply new
Serves old (Settle d place n count) reply new = SettleGives old d place n reply new
Serves old (RefillCall d) reply new = RefillGives old d reply new
Serves old (Store i) reply new = StoreGives old i reply new

-- the acts of the events that a call of a core is: none or one
abbrev pub admit_acts : ℕ → List Admission → CoreReply → List Act
admit_acts i records (Admitted (Ok verdicts)) = AdmitAct i records verdicts ∷ []
admit_acts i records reply = Look ∷ []

abbrev pub settle_acts : ℕ → ℕ → CoreReply → List Act
settle_acts d n (SettledReply result) = settle_act d n result ∷ []
settle_acts d n reply = []

abbrev pub refill_acts : ℕ → CoreReply → List Act
refill_acts d (Refilled result) = refill_act d result ∷ []
refill_acts d reply = []

abbrev pub store_acts : ℕ → CoreReply → List Act
store_acts i (StoredReply result) = store_act i result ∷ []
store_acts i reply = []

abbrev pub acts_in : CoreCall → CoreReply → List Act
acts_in (Credit i) reply = []
acts_in (Admit i records) reply = admit_acts i records reply
acts_in (Front d most) reply = Look ∷ []
acts_in (Settle d place n count) reply = settle_acts d n reply
acts_in (RefillCall d) reply = refill_acts d reply
acts_in (Store i) reply = store_acts i reply

abbrev pub acts_of : List Exchange → List Act
acts_of [] = []
acts_of (made ∷ rest) = acts_in made.call made.reply ++ acts_of rest
