-- What is known of each source and of each destination behind a quiet round.
use Rattle.std.proofs.Common.{◌≡◌, ◌<◌, ◌≤◌, ℕ, ◌+◌, Bool, true, false, List, [], ◌∷◌, ◌++◌, length, map, Some, None, Option, ◌⊎◌, inl, inr, refl, sym, ap, ◌∙◌, arith, slice_get, subst}
use Rattle.std.specs.Prelude.{is_some, IfSome}
use Rattle.std.specs.Option.{option_map}
use Rattle.std.proofs.lemmas.Bool.{cases_lt}
use Rattle.std.proofs.lemmas.List.{length-map}
use Rattle.sg_list.proofs.ListLemmas.{some-same, slice_get-some, slice_get-below, slice_get-map}
use Rattle.sg_device.specs.Faults.{Rose}
use Rattle.sg_device.specs.Inlet.{InletState, Part}
use Rattle.sg_device.specs.Outlet.{OutletState}
use Rattle.sg_outside.specs.World.{Files}
use Rattle.sg_msg.specs.declared.offer.Offer.{Offer}
use Rattle.sg_frame.specs.Records.{Record, records}
use Rattle.sg_frame.specs.declared.kind.FrameKind.TheVariants.{Lines}
use Rattle.sg_machine.specs.declared.event.Admission.{Admission}
use Rattle.sg_machine.specs.declared.setup.SourceSetup.{SourceSetup}
use Rattle.sg_counter.specs.Exchanges.{Exchange, Makes, Caller, OfSource, OfDest, caller_of, calls_by}
use Rattle.sg_counter.specs.declared.answers.Stored.TheVariants.{Unchanged}
use Rattle.sg_stores.proofs.GetLemmas.{get-map}
use Rattle.sg_standing.specs.States.{setup_of}
use Rattle.sg_core.specs.Calls.{Serves}
use Rattle.sg_actor.specs.Bringing.{admitted_in, stores_in, HasRefusal}
use Rattle.sg_actor.specs.Sources.{AreOf, HasRead, HasNothingLeft}
use Rattle.sg_actor.specs.Steps.{IsInletOver}
use Rattle.sg_actor.specs.SourceTurns.{ActorState, actor, IsNewSource}
use Rattle.sg_actor.specs.DestTurns.{IsShownEmpty}
use Rattle.sg_actor.specs.declared.dest.DestActor.{DestActor}
use Rattle.sg_actor.specs.declared.rendering.DestSpec.{DestSpec}
use Rattle.sg_actor.specs.declared.settings.SourceSpec.{SourceSpec}
use Rattle.sg_actor.specs.declared.source.SourceActor.{SourceActor}
use Rattle.sg_actor.specs.declared.turned.GivenUp.{GivenUp}
use Rattle.sg_actor.specs.declared.turned.GivenUp.TheVariants.{Outlet, Store}
use Rattle.sg_actor.specs.declared.turned.Turned.{Turned}
use Rattle.sg_actor.proofs.LawLemmas.{reads-all, stays-whole}
use Rattle.sg_turns.specs.Actors.{source_seen, dest_seen, SourceTook, DestTook}
use Rattle.sg_turns.specs.Laws.{ReadsOn, KeepWithin}
use Rattle.sg_turns.specs.Serving.{IsActor, AreFed, RestsLast}
use Rattle.sg_turns.specs.Turns.{Turn, calls_of}
use Rattle.sg_turns.specs.declared.ended.Ended.TheVariants.{Quiet}
use Rattle.sg_turns.proofs.CreditLemmas.{keep-within}
use Rattle.sg_turns.proofs.FailingLemmas.{source-fails, dest-fails}
use Rattle.sg_turns.proofs.LawLemmas.{read-on, source-rests, dest-rests}
use Rattle.sg_run_plan.specs.declared.inlet.InletPlan.{InletPlan}
use Rattle.sg_serve.specs.Actors.{SourceView, DestView, source_view, dest_view}
use Rattle.sg_serve.specs.Counts.{gave_up_outlet}
use Rattle.sg_serve.specs.Devices.{inlet_asked}
use Rattle.sg_serve.specs.Plan.{IsRunnable}
use Rattle.sg_serve.specs.Run.{CoreRun, Reached, HoldsRun, IsServed}
use Rattle.sg_serve.specs.declared.counts.Counts.{Counts}
use Rattle.sg_run_plan.specs.declared.plan.RunPlan.{RunPlan}
use Rattle.sg_laws.specs.Resting.{brought_by, spec_for, AreRecordsWhole}
use Rattle.sg_laws.proofs.StepLemmas.{Has, has-behind, own-has, either-true, went-all}
use Rattle.sg_laws.proofs.CalmLemmas.{AllCalm, calm-all, makes-split}
use Rattle.sg_laws.proofs.TurnLemmas.{last-source, last-dest, HasFailure, took-broke, HasBreakage, sent-broke}
use Rattle.sg_laws.proofs.FailingLemmas.{begun}
use Rattle.sg_laws.proofs.RoundLemmas.{Rounds, inlet-of-setup}
use Rattle.sg_laws.proofs.CreditLemmas.{NoneSentBack, none-sent}

-- Of a source: whether a pull failed, as these marks tell; that no records were sent back; whether its inlet is over, or it was refused
-- credit; and what it was told of its store.
pub record SourceFacts (offers : ℕ → Record → List Offer → Type 0) (inlet : InletPlan) (setup : SourceSetup) (i : ℕ) (opened closed : InletState) (made last : List Exchange) (marks : List Bool) : Type 0 where
  pub failed : Bool
  pub is : slice_get marks i ≡ Some failed
  pub rose : failed ≡ true → Rose opened.faults closed.faults
  pub unsent : NoneSentBack i made
  pub over : HasRefusal (calls_by (OfSource i) last) ⊎ ((((closed.ended ≡ true) × (inlet.kind ≡ Lines → HasNothingLeft closed)) ⊎ (failed ≡ true)) × AreRecordsWhole offers inlet setup.store i closed (brought_by i made))
  pub stored : (u : ℕ) → setup.store ≡ Some u → HasFailure (calls_by (OfSource i) made) ⊎ (stores_in (calls_by (OfSource i) last) ≡ Unchanged ∷ [])

-- Of a destination: whether it is given up for its outlet, as these marks tell; and what it was told of its store and its entries.
pub record DestFacts (once : Bool) (d : ℕ) (closed : OutletState) (made last : List Exchange) (marks : List Bool) : Type 0 where
  pub gave_up : Bool
  pub is : slice_get marks d ≡ Some gave_up
  pub failing : gave_up ≡ true → (once ≡ true) × (3 ≤ closed.failing)
  pub rests : (gave_up ≡ true) ⊎ (HasBreakage (calls_by (OfDest d) made) ⊎ IsShownEmpty (calls_by (OfDest d) last))

-- Before its first turn a source read nothing.

none-held : (offers : ℕ → Record → List Offer → Type 0) (spec : SourceSpec) (behind : List Record) (held : List Admission) → AreOf (λ j r given. Unit {0}) spec behind held → length behind ≤ 0 → AreOf offers spec behind held
none-held offers spec [] [] are few = tt
none-held offers spec [] (a ∷ as') are few = absurd are
none-held offers spec (r ∷ rs) held are few = absurd (let wrong : ⊥ = omega (arith, few) in wrong)

nothing-read : (offers : ℕ → Record → List Offer → Type 0) (dests : ℕ) (spec : SourceSpec) (s : ActorState) → IsNewSource (λ j r given. Unit {0}) dests spec s → s.source.feed.bytes ≡ 0 → HasRead offers spec s.source [] 0
nothing-read offers dests spec s is none =
    let read = is.reads in
    let fewer = (read.1.1.1.1).fewer in
    let few : length read.0 ≤ 0 = omega (arith, fewer, none) in
    (read.0, (none-held offers spec read.0 s.source.reader.held read.1.0 few, read.1.1))

whole-by : (offers : ℕ → Record → List Offer → Type 0) (plan : InletPlan) (store : Option ℕ) (i from : ℕ) (told : Option (List Part)) (brought : List Admission) → ((parts : List Part) → told ≡ Some parts → AreOf offers (spec_for plan store i from) (records plan.kind plan.limit from parts) brought)
    → IfSome (option_map (records plan.kind plan.limit from) told) (λ given. AreOf offers (spec_for plan store i from) given brought)
whole-by offers plan store i from None brought h = tt
whole-by offers plan store i from (Some parts) brought h = h parts refl

-- where the inlet is over, all that it gave came in
whole-read : (offers : ℕ → Record → List Offer → Type 0) (dests : ℕ) (spec : SourceSpec) (old new : ActorState) (turns : List Turn) (plan : InletPlan) (store : Option ℕ) (i : ℕ) (brought : List Admission) → ReadsOn offers dests spec old new turns [] 0
    → spec ≡ spec_for plan store i new.source.feed.from → brought ≡ admitted_in (calls_of turns) → IsInletOver new.source.reader → AreRecordsWhole offers plan store i new.source.feed brought
whole-read offers dests spec old new turns plan store i brought reads spec-is came over =
    let feed = new.source.feed in
    whole-by offers plan store i feed.from feed.told brought (λ parts told.
    let all = (reads-all offers dests spec new.source reads.taken (0 + reads.ups) parts reads.ready reads.reads over told).0 in
    let given : reads.taken ≡ records plan.kind plan.limit feed.from parts = all ∙ ap (λ (s : SourceSpec). records s.kind s.limit s.from parts) spec-is in
    subst (λ (s : SourceSpec). AreOf offers s (records plan.kind plan.limit feed.from parts) brought) spec-is
    (subst (λ (rs : List Record). AreOf offers spec rs brought) given
    (subst (λ (as' : List Admission). AreOf offers spec reads.taken as') (sym came) reads.offered)))

-- The turns of a quiet run found memory.

all-fed : (earlier : List Turn) (turn : Turn) → AreFed earlier → is_some turn.answer ≡ true → AreFed (earlier ++ turn ∷ [])
all-fed [] turn fed last = (last, tt)
all-fed (t ∷ earlier) turn fed last = (fed.0, all-fed earlier turn fed.1 last)

rests-fed : (turns : List Turn) (before last : List Exchange) → RestsLast turns before last → AreFed turns
rests-fed turns before last rest = subst (λ (ts : List Turn). AreFed ts) (sym rest.are) (all-fed rest.earlier rest.turn rest.fed (ap (λ (o : Option Turned). is_some o) rest.nothing))

pub for-outlet : (cause : Option GivenUp) → gave_up_outlet cause ≡ true → cause ≡ Some Outlet
for-outlet None h = absurd (let wrong : false ≡ true = h in cc)
for-outlet (Some Outlet) h = refl
for-outlet (Some Store) h = absurd (let wrong : false ≡ true = h in cc)

given-as : (cause : Option GivenUp) → is_some cause ≡ true → (gave_up_outlet cause ≡ true) ⊎ (cause ≡ Some Store)
given-as None h = absurd (let wrong : false ≡ true = h in cc)
given-as (Some Outlet) h = inl refl
given-as (Some Store) h = inr refl

actor-or : (n m : ℕ) (who : Caller) → IsActor n m who ⊎ (IsActor n m who → ⊥)
actor-or n m (OfSource i) =
    elim (cases_lt i n) [
      | inl low ↦ inl low
      | inr high ↦ inr (λ low. omega (arith, low, high))
    ]
actor-or n m (OfDest d) =
    elim (cases_lt d m) [
      | inl low ↦ inl low
      | inr high ↦ inr (λ low. omega (arith, low, high))
    ]

module _ {R I O : Type 0} (feed : I → InletState) (drain : O → OutletState) (offers : R → ℕ → Record → List Offer → Type 0) (inlets dests : R → ℕ) (files : Option Files) (plan : RunPlan) (routers : List R) (rounds : ℕ) (reached : Reached) (run : CoreRun)
    (counts : Option Counts) (runnable : IsRunnable plan) (holds : HoldsRun files plan reached run) (served : IsServed feed drain offers inlets dests plan routers rounds reached run Quiet counts) where
  -- The calls of the last round.

  calm-source : (i : ℕ) (before last : List Exchange) → i < length (served.runs).sources → (rest : RestsLast ((served.runs).account (OfSource i)) before last) → AllCalm (rest.turn).made
  calm-source i before last low rest =
      let runs = served.runs in
      let took = (runs.serves).took in
      let a = slice_get-some runs.sources i low in
      let b = slice_get-some runs.sources_then i (let n = took.all_sources in omega (arith, low, n)) in
      let turns = runs.account (OfSource i) in
      let does : SourceTook feed offers inlets dests a.0 b.0 turns = took.sources_took i a.0 b.0 a.1 b.1 in
      last-source (offers (a.0).router) (dests (a.0).router) (a.0).spec (source_seen feed a.0) (source_seen feed b.0) turns rest.earlier rest.turn does.took rest.are rest.nothing

  calm-dest : (d : ℕ) (before last : List Exchange) → d < length (served.runs).dests_first → (rest : RestsLast ((served.runs).account (OfDest d)) before last) → AllCalm (rest.turn).made
  calm-dest d before last low rest =
      let runs = served.runs in
      let took = (runs.serves).took in
      let a = slice_get-some runs.dests_first d low in
      let b = slice_get-some runs.dests_then d (let n = took.all_dests in omega (arith, low, n)) in
      let turns = runs.account (OfDest d) in
      let does : DestTook drain a.0 b.0 turns = took.dests_took d a.0 b.0 a.1 b.1 in
      last-dest (a.0).spec (dest_seen drain a.0) (dest_seen drain b.0) turns rest.earlier rest.turn does.took rest.are rest.nothing

  calm-actor : (who : Caller) (before last : List Exchange) → IsActor (length (served.runs).sources) (length (served.runs).dests_first) who → (rest : RestsLast ((served.runs).account who) before last) → AllCalm (rest.turn).made
  calm-actor (OfSource i) before last low rest = calm-source i before last low rest
  calm-actor (OfDest d) before last low rest = calm-dest d before last low rest

  calm-last : AllCalm (((served.runs).serves).ends).last
  calm-last e h =
      let runs = served.runs in
      let took = (runs.serves).took in
      let ends = (runs.serves).ends in
      let who = caller_of e.call in
      elim (actor-or (length runs.sources) (length runs.dests_first) who) [
        | inl is ↦ (
            let rest = ends.each who is in
            calm-actor who (calls_by who ends.before) (calls_by who ends.last) is rest e (subst (λ (es : List Exchange). Has es e) rest.last_are (own-has ends.last e h)))
        | inr absent ↦ (
            let made = subst (λ (es : List Exchange). Has es e) (sym ends.are) (has-behind ends.before ends.last e h) in
            absurd (subst (λ (es : List Exchange). Has es e) (took.others who absent) (own-has run.made e made)))
      ]

  pub quiet-rounds : Rounds run.begun run.last run.made (((served.runs).serves).ends).last
  quiet-rounds =
      let runs = served.runs in
      let took = (runs.serves).took in
      let ends = (runs.serves).ends in
      let b = begun plan reached run holds.core served.rewinds in
      let split = makes-split run.begun run.last ends.before ends.last (subst (λ (es : List Exchange). Makes Serves run.begun es run.last) ends.are took.makes) in
      let went = went-all run.begun split.0 ends.before b.state split.1.0 b.at in
      record {
        first = b.state;
        at_first = b.at;
        makes = took.makes;
        mid = split.0;
        state = went.0;
        at_mid = (went.1).at;
        rest = split.1.1;
        within = λ e h. subst (λ (es : List Exchange). Has es e) (sym ends.are) (has-behind ends.before ends.last e h);
        calm = calm-last;
        stayed = calm-all split.0 run.last ends.last went.0 split.1.1 calm-last (went.1).at;
      }

  pub setup-last : setup_of run.last ≡ plan.setup
  setup-last =
      let took = ((served.runs).serves).took in
      let b = begun plan reached run holds.core served.rewinds in
      (went-all run.begun run.last run.made b.state took.makes b.at).1.setup ∙ b.setup

  -- Sources.

  pub source-known : (i : ℕ) (inlet : InletPlan) (setup : SourceSetup) (a b : SourceActor R I) → slice_get plan.inlets.items i ≡ Some inlet → slice_get plan.setup.sources i ≡ Some setup → slice_get (served.runs).sources i ≡ Some a
      → slice_get (served.runs).sources_then i ≡ Some b
      → SourceFacts (offers a.router) inlet setup i (feed a.inlet) (feed b.inlet) run.made (((served.runs).serves).ends).last (map (λ (x : SourceActor R I). x.reader.failed) (served.runs).sources_then)
  source-known i inlet setup a b at_inlet at_setup at_a at_b =
      let runs = served.runs in
      let made = run.made in
      let turns = runs.account (OfSource i) in
      let took = (runs.serves).took in
      let ends = (runs.serves).ends in
      let low = slice_get-below runs.sources i a at_a in
      let view_of : SourceActor R I → SourceView = λ x. source_view x.spec (actor (feed x.inlet) x.reader x.buffer.items x.position x.bad_frames) (dests x.router) in
      let for = runs.are_sources i inlet setup (view_of a) at_inlet at_setup (slice_get-map view_of runs.sources i a at_a) in
      let asked = slice_get-map (λ (p : InletPlan). inlet_asked plan.once p.spec) plan.inlets.items i inlet at_inlet in
      let fed : slice_get reached.inlets i ≡ Some (feed a.inlet) = ap (λ fs. slice_get fs i) (sym runs.inlets_opened) ∙ slice_get-map (λ (x : SourceActor R I). feed x.inlet) runs.sources i a at_a in
      let none = ((holds.begin_at i (inlet_asked plan.once inlet.spec) (feed a.inlet) asked fed).fresh).bytes in
      let says = offers a.router in
      let count = dests a.router in
      let old = source_seen feed a in
      let new = source_seen feed b in
      let does : SourceTook feed offers inlets dests a b turns = took.sources_took i a b at_a at_b in
      let reads = read-on says count a.spec old new turns does.took (for.is).ready [] 0 (nothing-read says count a.spec old for.is none) in
      let calls : calls_by (OfSource i) made ≡ calls_of turns = took.calls (OfSource i) low in
      let rest = ends.each (OfSource i) low in
      let keeps = keep-within says count a.spec 0 old new turns does.took (rests-fed turns (calls_by (OfSource i) ends.before) (calls_by (OfSource i) ends.last) rest) (for.is).held in
      let within = subst (λ (es : List Exchange). KeepWithin 0 es) (sym calls) keeps in
      let first = begun plan reached run holds.core served.rewinds in
      let x = inlet-of-setup run.begun first.state plan.setup i setup first.at first.setup at_setup in
      let empty = source-rests says count a.spec old new turns (calls_by (OfSource i) ends.before) (calls_by (OfSource i) ends.last) does.took rest in
      let from : (feed a.inlet).from ≡ (feed b.inlet).from = sym (ap (λ (s : SourceSpec). s.from) for.spec_is) ∙ sym (reads.ready).from in
      let spec-is : a.spec ≡ spec_for inlet setup.store i (feed b.inlet).from = for.spec_is ∙ ap (λ (f : ℕ). spec_for inlet setup.store i f) from in
      let kind : a.spec.kind ≡ inlet.kind = ap (λ (s : SourceSpec). s.kind) for.spec_is in
      record {
        failed = b.reader.failed;
        is = slice_get-map (λ (x : SourceActor R I). x.reader.failed) runs.sources_then i b at_b;
        rose = λ e. (source-fails says count a.spec old new turns does.took).1 (for.is).going.1 e;
        unsent = none-sent run.begun run.last made i 0 took.makes (record { state = first.state; at = first.at; inlet = x.0; there = x.1.0; credit = omega arith }) within;
        over = elim empty.over [
          | inl refused ↦ inl refused
          | inr over ↦ inr (
            (elim (either-true b.reader.ended b.reader.failed over.over) [
              | inl ended ↦ inl (((reads.ready).over ended).0, λ lines. (stays-whole count a.spec new.source reads.ready (kind ∙ lines)).1 ended)
              | inr failed ↦ inr failed
            ]),
            whole-read says count a.spec old new turns inlet setup.store i (brought_by i made) reads spec-is (ap admitted_in calls) over,
          )
        ];
        stored = λ u has.
            elim (empty.stored (ap (λ (s : SourceSpec). s.stored) for.spec_is ∙ ap (λ (o : Option ℕ). is_some o) has)) [
              | inl broken ↦ elim (took-broke says count a.spec old new turns does.took broken) [
                | inl was ↦ absurd (let wrong : true ≡ false = sym was ∙ (for.is).works in cc)
                | inr failure ↦ inl (subst (λ (es : List Exchange). HasFailure es) (sym calls) failure)
              ]
              | inr same ↦ inr same
            ];
      }

  pub source-facts : (i : ℕ) (inlet : InletPlan) (setup : SourceSetup) (router : R) (opened closed : InletState) → slice_get plan.inlets.items i ≡ Some inlet → slice_get plan.setup.sources i ≡ Some setup → slice_get routers i ≡ Some router
      → slice_get reached.inlets i ≡ Some opened → slice_get reached.inlets_closed i ≡ Some closed
      → SourceFacts (offers router) inlet setup i opened closed run.made (((served.runs).serves).ends).last (map (λ (x : SourceActor R I). x.reader.failed) (served.runs).sources_then)
  source-facts i inlet setup router opened closed at_inlet at_setup at_router at_opened at_closed =
      let runs = served.runs in
      let made = run.made in
      let last = ((runs.serves).ends).last in
      let marks = map (λ (x : SourceActor R I). x.reader.failed) runs.sources_then in
      let a = get-map (λ (x : SourceActor R I). x.router) runs.sources i router (ap (λ rs. slice_get rs i) runs.same_routers ∙ at_router) in
      let b = get-map (λ (x : SourceActor R I). feed x.inlet) runs.sources_then i closed (ap (λ fs. slice_get fs i) runs.inlets_closed ∙ at_closed) in
      let fed : slice_get reached.inlets i ≡ Some (feed (a.0).inlet) = ap (λ fs. slice_get fs i) (sym runs.inlets_opened) ∙ slice_get-map (λ (x : SourceActor R I). feed x.inlet) runs.sources i a.0 a.1 in
      let same : opened ≡ feed (a.0).inlet = some-same opened (feed (a.0).inlet) (sym at_opened ∙ fed) in
      let known = source-known i inlet setup a.0 b.0 at_inlet at_setup a.1 b.1 in
      subst (λ (r : R). SourceFacts (offers r) inlet setup i opened closed made last marks) (sym a.2)
      (subst (λ (o : InletState). SourceFacts (offers (a.0).router) inlet setup i o closed made last marks) (sym same)
      (subst (λ (c : InletState). SourceFacts (offers (a.0).router) inlet setup i (feed (a.0).inlet) c made last marks) (sym b.2) known))

  -- Destinations.

  pub dest-facts : (d : ℕ) (closed : OutletState) → slice_get reached.outlets_closed d ≡ Some closed
      → DestFacts plan.once d closed run.made (((served.runs).serves).ends).last (map (λ (x : DestActor O). gave_up_outlet x.outage.given_up) (served.runs).dests_then)
  dest-facts d closed at_closed =
      let runs = served.runs in
      let made = run.made in
      let turns = runs.account (OfDest d) in
      let took = (runs.serves).took in
      let ends = (runs.serves).ends in
      let marks = map (λ (x : DestActor O). gave_up_outlet x.outage.given_up) runs.dests_then in
      let b = get-map (λ (x : DestActor O). drain x.outlet) runs.dests_then d closed (ap (λ os. slice_get os d) runs.outlets_closed ∙ at_closed) in
      let below = slice_get-below runs.dests_then d b.0 b.1 in
      let a = slice_get-some runs.dests_first d (let n = took.all_dests in omega (arith, below, n)) in
      let low = slice_get-below runs.dests_first d a.0 a.1 in
      let many : length runs.dests_first ≡ length plan.outlets.items = sym (length-map runs.dests_first (λ (x : DestActor O). drain x.outlet)) ∙ (ap (λ os. length os) runs.outlets_opened ∙ served.all_outlets) in
      let outlet = slice_get-some plan.outlets.items d (omega (arith, low, many)) in
      let view_of : DestActor O → DestView = λ x. dest_view x.spec x.outage (drain x.outlet) in
      let for = runs.are_dests d outlet.0 (view_of a.0) outlet.1 (slice_get-map view_of runs.dests_first d a.0 a.1) in
      let kept = (for.is).kept in
      let old = dest_seen drain a.0 in
      let new = dest_seen drain b.0 in
      let does : DestTook drain a.0 b.0 turns = took.dests_took d a.0 b.0 a.1 b.1 in
      let calls : calls_by (OfDest d) made ≡ calls_of turns = took.calls (OfDest d) low in
      let rest = ends.each (OfDest d) low in
      let rests = dest-rests (a.0).spec old new turns (calls_by (OfDest d) ends.before) (calls_by (OfDest d) ends.last) does.took rest in
      subst (λ (c : OutletState). DestFacts plan.once d c made ends.last marks) (sym b.2) (record {
        gave_up = gave_up_outlet (b.0).outage.given_up;
        is = slice_get-map (λ (x : DestActor O). gave_up_outlet x.outage.given_up) runs.dests_then d b.0 b.1;
        failing = λ e.
            let why = dest-fails (a.0).spec old new turns does.took (λ g. absurd (let wrong : None ≡ Some Outlet = sym kept ∙ g in cc)) (for-outlet (b.0).outage.given_up e) in
            (sym (ap (λ (s : DestSpec). s.gives_up) (for.is).spec_is) ∙ why.0, why.1);
        rests = elim rests [
          | inl some ↦ elim (given-as (b.0).outage.given_up some) [
            | inl outlet ↦ inl outlet
            | inr store ↦ elim (sent-broke (a.0).spec old new turns does.took store) [
              | inl was ↦ absurd (let wrong : None ≡ Some Store = sym kept ∙ was in cc)
              | inr breakage ↦ inr (inl (subst (λ (es : List Exchange). HasBreakage es) (sym calls) breakage))
            ]
          ]
          | inr shown ↦ inr (inr shown)
        ];
      })
