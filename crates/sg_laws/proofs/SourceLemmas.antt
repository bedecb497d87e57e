-- What destinations take of one source.
use Rattle.std.proofs.Common.{◌≡◌, ◌≤◌, ℕ, ◌+◌, List, [], ◌∷◌, ◌++◌, length, Some, None, Option, Bool, true, false, refl, sym, ap, ◌∙◌, arith, subst}
use Rattle.std.specs.Option.{option_map}
use Rattle.sg_list.proofs.ListLemmas.{some-same}
use Rattle.sg_device.specs.Inlet.{Part}
use Rattle.sg_msg.specs.Message.{Content}
use Rattle.sg_msg.specs.declared.offer.Offer.{Offer}
use Rattle.sg_frame.specs.Records.{Record, records}
use Rattle.sg_machine.specs.declared.event.Admission.{Admission}
use Rattle.sg_machine.specs.declared.event.Event.{Event}
use Rattle.sg_machine.specs.declared.state.Dest.{Dest}
use Rattle.sg_machine.specs.declared.state.State.{State}
use Rattle.sg_machine.specs.Runs.{are_legal}
use Rattle.sg_actor.specs.Bringing.{admitted_in}
use Rattle.sg_actor.specs.Sources.{AreOf, HasRead}
use Rattle.sg_actor.specs.SourceTurns.{ActorState, IsNewSource}
use Rattle.sg_actor.specs.declared.settings.SourceSpec.{SourceSpec}
use Rattle.sg_actor.proofs.LawLemmas.{reads-first}
use Rattle.sg_turns.specs.Turns.{Turn, calls_of}
use Rattle.sg_turns.specs.Laws.{ReadsOn}
use Rattle.sg_run_plan.specs.declared.inlet.InletPlan.{InletPlan}
use Rattle.sg_laws.specs.Fronts.{IsDestThroughout}
use Rattle.sg_laws.specs.Texts.{admissions_of, taken_from, records_given, AreFirstRecords, TakesTexts, TakesFirstTexts}
use Rattle.sg_laws.proofs.OwnEventLemmas.{takes-texts}
use Rattle.sg_laws.specs.Headline.{records_of}

-- Before its first turn.

none-held : (offers : ℕ → Record → List Offer → Type 0) (spec : SourceSpec) (behind : List Record) (held : List Admission) → AreOf (λ j r given. Unit {0}) spec behind held → length behind ≤ 0 → AreOf offers spec behind held
none-held offers spec [] [] are few = tt
none-held offers spec [] (a ∷ as') are few = absurd are
none-held offers spec (r ∷ rs) held are few = absurd (let wrong : ⊥ = omega (arith, few) in wrong)

-- an inlet that gave no byte yet gave no record, whatever its offers are
pub nothing-read : (offers : ℕ → Record → List Offer → Type 0) (dests : ℕ) (spec : SourceSpec) (s : ActorState) → IsNewSource (λ j r given. Unit {0}) dests spec s → s.source.feed.bytes ≡ 0 → HasRead offers spec s.source [] 0
nothing-read offers dests spec s is none =
    let read = is.reads in
    let fewer = (read.1.1.1.1).fewer in
    let few : length read.0 ≤ 0 = omega (arith, fewer, none) in
    (read.0, (none-held offers spec read.0 s.source.reader.held read.1.0 few, read.1.1))

-- Behind its last turn.

first-of : (spec : SourceSpec) (told : Option (List Part)) (done : List Record) → ((parts : List Part) → told ≡ Some parts → (rest : List Record) × (records spec.kind spec.limit spec.from parts ≡ done ++ rest))
    → AreFirstRecords done (option_map (records spec.kind spec.limit spec.from) told)
first-of spec None done h = tt
first-of spec (Some parts) done h = h parts refl

-- a source is set up as the inlet of the plan
pub record IsPlanned (spec : SourceSpec) (i : ℕ) (inlet : InletPlan) : Type 0 where
  pub number : spec.inlet ≡ i
  pub kind : spec.kind ≡ inlet.kind
  pub limit : spec.limit ≡ inlet.limit

pub planned-of : (spec : SourceSpec) (i from : ℕ) (inlet : InletPlan) (stored : Bool) → spec ≡ record { inlet = i; kind = inlet.kind; limit = inlet.limit; fetch = inlet.fetch; from = from; stored = stored } → IsPlanned spec i inlet
planned-of spec i from inlet stored is = record {
  number = ap (λ (s : SourceSpec). s.inlet) is;
  kind = ap (λ (s : SourceSpec). s.kind) is;
  limit = ap (λ (s : SourceSpec). s.limit) is;
}

-- where these records are what came in of the inlet, and the first that it gave
texts-of : (offers : ℕ → Record → List Offer → Type 0) (frame : ℕ → Content → List ℕ) (start : State) (events : List Event) (spec : SourceSpec) (done : List Record) (given : Option (List Record)) (d : ℕ) (first last : Dest)
    → are_legal start events ≡ true → AreOf offers spec done (admissions_of spec.inlet events) → AreFirstRecords done given → IsDestThroughout start [] events d first last
    → TakesFirstTexts offers frame spec.inlet d given events (taken_from frame spec.inlet d first last) last.left
texts-of offers frame start events spec done given d first last legal are front is =
    let t = takes-texts offers frame start events spec done d first legal are is.at_first in
    let same : t.0 ≡ last = some-same t.0 last (sym t.1.0 ∙ is.at_last) in
    record {
      done = done;
      first = front;
      takes = subst (λ (x : Dest). TakesTexts offers frame spec.inlet d done events (taken_from frame spec.inlet d first x) x.left) same t.1.1;
    }

pub source-texts : (offers : ℕ → Record → List Offer → Type 0) (dests : ℕ) (spec : SourceSpec) (old new : ActorState) (turns : List Turn) → ReadsOn offers dests spec old new turns [] 0
    → (i : ℕ) (inlet : InletPlan) → IsPlanned spec i inlet → (start : State) (events : List Event) → are_legal start events ≡ true → admissions_of i events ≡ admitted_in (calls_of turns)
    → (frame : ℕ → Content → List ℕ) (d : ℕ) (first last : Dest) → IsDestThroughout start [] events d first last
    → TakesFirstTexts offers frame i d (records_of inlet new.source.feed) events (taken_from frame i d first last) last.left
source-texts offers dests spec old new turns reads i inlet planned start events legal came frame d first last is =
    let feed = new.source.feed in
    let own : admissions_of spec.inlet events ≡ admitted_in (calls_of turns) = ap (λ j. admissions_of j events) planned.number ∙ came in
    let are : AreOf offers spec reads.taken (admissions_of spec.inlet events) = subst (AreOf offers spec reads.taken) (sym own) reads.offered in
    let given : records_given spec feed ≡ records_of inlet feed =
    ap (λ k. option_map (records k spec.limit spec.from) feed.told) planned.kind
    ∙ ap (λ l. option_map (records inlet.kind l spec.from) feed.told) planned.limit
    ∙ ap (λ f. option_map (records inlet.kind inlet.limit f) feed.told) (sym reads.ready.from) in
    let front = subst (AreFirstRecords reads.taken) given
    (first-of spec feed.told reads.taken (λ parts told. reads-first offers dests spec new.source reads.taken (0 + reads.ups) parts reads.ready reads.reads told)) in
    subst (λ j. TakesFirstTexts offers frame j d (records_of inlet feed) events (taken_from frame j d first last) last.left) planned.number
    (texts-of offers frame start events spec reads.taken (records_of inlet feed) d first last legal are front is)

none-first : (given : Option (List Record)) → AreFirstRecords [] given
none-first None = tt
none-first (Some records) = (records, refl)

-- where none came in
pub no-texts : (offers : ℕ → Record → List Offer → Type 0) (frame : ℕ → Content → List ℕ) (start : State) (events : List Event) (i : ℕ) (inlet : InletPlan) (given : Option (List Record)) (d : ℕ) (first last : Dest) → are_legal start events ≡ true
    → admissions_of i events ≡ [] → IsDestThroughout start [] events d first last → TakesFirstTexts offers frame i d given events (taken_from frame i d first last) last.left
no-texts offers frame start events i inlet given d first last legal none is =
    let spec : SourceSpec = record { inlet = i; kind = inlet.kind; limit = inlet.limit; fetch = inlet.fetch; from = 0; stored = false } in
    let are : AreOf offers spec [] (admissions_of i events) = subst (AreOf offers spec []) (sym none) tt in
    texts-of offers frame start events spec [] given d first last legal are (none-first given) is
