-- What a run comes to that ends quietly, with nothing failed.
use Rattle.std.proofs.Common.{◌≡◌, ◌<◌, ℕ, ◌+◌, ◌-◌, zero, suc, Bool, true, false, List, [], ◌∷◌, ◌++◌, length, map, Some, None, Option, inl, inr, refl, sym, ap, ◌∙◌, arith, slice_get, subst}
use Rattle.std.specs.Option.{option_map_or}
use Rattle.std.proofs.lemmas.List.{length-map}
use Rattle.sg_list.proofs.ListLemmas.{some-same, slice_get-map, slice_get-some, slice_get-below}
use Rattle.sg_device.specs.Disk.{DiskState, EachNow}
use Rattle.sg_device.specs.Inlet.{InletState}
use Rattle.sg_device.specs.Outlet.{OutletState}
use Rattle.sg_outside.specs.World.{Files}
use Rattle.sg_msg.specs.declared.offer.Offer.{Offer}
use Rattle.sg_frame.specs.Records.{Record}
use Rattle.sg_stable.specs.Position.{IsPosition}
use Rattle.sg_buffer.specs.Entries.{IsListOf}
use Rattle.sg_machine.specs.declared.setup.BufferSetup.{BufferSetup}
use Rattle.sg_machine.specs.declared.setup.DestSetup.{DestSetup}
use Rattle.sg_machine.specs.declared.setup.Setup.{Setup}
use Rattle.sg_machine.specs.declared.setup.SourceSetup.{SourceSetup}
use Rattle.sg_machine.specs.declared.state.Dest.{Dest}
use Rattle.sg_machine.specs.declared.state.DestEntry.{DestEntry}
use Rattle.sg_machine.specs.declared.state.InletRecords.{InletRecords}
use Rattle.sg_machine.specs.declared.state.State.{State}
use Rattle.sg_machine.specs.Effects.{ends_of}
use Rattle.sg_machine.specs.Marks.{outstanding_of, mark_of}
use Rattle.sg_machine.specs.Safe.{spooled_of}
use Rattle.sg_machine.specs.Verdicts.{is_listed}
use Rattle.sg_sinks.specs.Laws.{is_listed_in}
use Rattle.sg_sinks.specs.States.{SinkState}
use Rattle.sg_stores.specs.Stores.{StoreState, HoldsEntries}
use Rattle.sg_stores.specs.Positions.{stored_in}
use Rattle.sg_stores.proofs.GetLemmas.{get-map}
use Rattle.sg_stores.proofs.StoreLemmas.{each-held}
use Rattle.sg_standing.specs.States.{CoreState, setup_of}
use Rattle.sg_standing.specs.Standing.{IsAt, is_broken}
use Rattle.sg_standing.proofs.ImageLaws.{shows-at}
use Rattle.sg_standing.proofs.More.{placed, backed}
use Rattle.sg_core.specs.Answers.{credit_left}
use Rattle.sg_core.specs.Opening.{HaveWindows}
use Rattle.sg_core.proofs.DestSteps.{dest-of}
use Rattle.sg_core.proofs.Fits.{stored-of, store-at-of}
use Rattle.sg_actor.specs.Bringing.{last_end}
use Rattle.sg_actor.specs.declared.dest.DestActor.{DestActor}
use Rattle.sg_actor.specs.declared.source.SourceActor.{SourceActor}
use Rattle.sg_run_plan.specs.declared.inlet.InletPlan.{InletPlan}
use Rattle.sg_turns.specs.declared.ended.Ended.TheVariants.{Quiet}
use Rattle.sg_serve.specs.Counts.{gave_up_outlet, numbers_from, first_fault}
use Rattle.sg_serve.specs.Plan.{IsRunnable}
use Rattle.sg_serve.specs.Rewinds.{position_at}
use Rattle.sg_serve.specs.Run.{CoreRun, Reached, HoldsRun, IsServed, PlanRunHolds}
use Rattle.sg_serve.specs.declared.counts.Counts.{Counts}
use Rattle.sg_serve.specs.declared.counts.Fault.TheVariants.{Sink, Disk, Inlet as InletFault}
use Rattle.sg_serve.specs.declared.ending.PlanEnded.TheVariants.{Ran}
use Rattle.sg_run_plan.specs.declared.plan.RunPlan.{RunPlan}
use Rattle.sg_laws.specs.Resting.{brought_by}
use Rattle.sg_laws.specs.Ending.{IsEnded, EndsRounds, CleanRunsEnd}
use Rattle.sg_laws.proofs.AgreeLemmas.{seen}
use Rattle.sg_laws.proofs.FailingLemmas.{begun}
use Rattle.sg_laws.proofs.RoundLemmas.{Rounds, inlet-of-setup, source-credit}
use Rattle.sg_laws.proofs.FactLemmas.{quiet-rounds, setup-last, source-known, source-facts, dest-facts}
use Rattle.sg_laws.proofs.RestingLemmas.{setup-at, stored-rests, dest-rests-by}
use Rattle.sg_laws.proofs.CalmLemmas.{with_failed}
use Rattle.sg_laws.proofs.CameLemmas.{NoneLeft, none-outstanding, last_place, mark-last, last-ends, came-all}

-- Nothing is counted as failed.

unmarked : (k j : ℕ) (marks : List Bool) → numbers_from k marks ≡ [] → slice_get marks j ≡ Some true → ⊥
unmarked k j [] none h = let wrong : None ≡ Some true = h in cc
unmarked k j (true ∷ marks) none h = let wrong : k ∷ numbers_from (k + 1) marks ≡ [] = none in cc
unmarked k zero (false ∷ marks) none h = let wrong : false ≡ true = some-same false true h in cc
unmarked k (suc j) (false ∷ marks) none h = unmarked (k + 1) j marks none h

no-fault : (sinks stores inlets : List ℕ) → first_fault sinks stores inlets ≡ None → (sinks ≡ []) × (stores ≡ []) × (inlets ≡ [])
no-fault [] [] [] h = (refl, refl, refl)
no-fault (d ∷ ds) stores inlets h = absurd (let wrong : Some (Sink d) ≡ None = h in cc)
no-fault [] (s ∷ ss) inlets h = absurd (let wrong : Some (Disk s) ≡ None = h in cc)
no-fault [] [] (i ∷ is) h = absurd (let wrong : Some (InletFault i) ≡ None = h in cc)

false-of : (b : Bool) → (b ≡ true → ⊥) → b ≡ false
false-of true h = absurd (h refl)
false-of false h = refl

-- each store works
abbrev Works : CoreState → Type 0
Works core = (u : ℕ) (store : StoreState) → slice_get core.stores u ≡ Some store → store.failed ≡ false

not-listed : (o : Option BufferSetup) (failed : List ℕ) → ((b : BufferSetup) → o ≡ Some b → is_listed b.store failed ≡ true → ⊥) → is_listed_in o failed ≡ true → ⊥
not-listed None failed h is = let wrong : false ≡ true = is in cc
not-listed (Some b) failed h is = h b refl is

-- then no destination's disk-buffer has failed
none-broken : (core : CoreState) (t : State) (d : ℕ) (x : Dest) → Works core → IsAt core t → slice_get t.dests d ≡ Some x → is_broken t.failed x ≡ true → ⊥
none-broken core t d x works at there broken =
    not-listed x.setup.buffer t.failed (λ b has listed.
    let back = at.buffers d x b there has in
    let wrong : false ≡ true = sym (works b.store back.store back.there) ∙ (back.is).failed_is ∙ listed in
    cc) broken

-- Windows.

window-of : (setups : List SourceSetup) (i : ℕ) (s : SourceSetup) → HaveWindows setups → slice_get setups i ≡ Some s → 0 < s.window
window-of [] i s h there = absurd (let wrong : None ≡ Some s = there in cc)
window-of (x ∷ xs) zero s h there = subst (λ (y : SourceSetup). 0 < y.window) (some-same x s there) h.0
window-of (x ∷ xs) (suc i) s h there = window-of xs i s h.1 there

-- where nothing is left the credit is the whole window
whole-credit : (t : State) (i : ℕ) (x : InletRecords) → NoneLeft t.dests → slice_get t.inlets i ≡ Some x → credit_left t i ≡ x.setup.window
whole-credit t i x none there =
    let zero' : outstanding_of t.dests i x ≡ 0 = none-outstanding t.dests i 0 x.ends none in
    let all : x.setup.window - outstanding_of t.dests i x ≡ x.setup.window = omega (arith, zero') in
    ap (λ (o : Option InletRecords). option_map_or (λ (y : InletRecords). y.setup.window - outstanding_of t.dests i y) o 0) there ∙ all

-- The beginning.

-- the place at which reading began
opening-of : (core : CoreState) (t : State) (i : ℕ) (x : InletRecords) → IsAt core t → slice_get t.inlets i ≡ Some x → x.ends ≡ [] → x.opening ≡ position_at core i
opening-of core t i x at there none =
    let a = seen core t i x at there in
    let moved = (at.sound).unmoved i x there none in
    let here : position_at core i ≡ x.stored =
    ap (λ (o : Option ℕ). stored_in core.stores o) (store-at-of core.sources i a.source a.there) ∙ stored-of core t i a.source at a.there ∙ ap (λ (o : Option InletRecords). option_map_or (λ (y : InletRecords). y.stored) o 0) there in
    sym (here ∙ moved)

module _ {R I O : Type 0} (feed : I → InletState) (drain : O → OutletState) (offers : R → ℕ → Record → List Offer → Type 0) (inlets dests : R → ℕ) (files : Option Files) (plan : RunPlan) (routers : List R) (rounds : ℕ) (reached : Reached) (run : CoreRun)
    (counts : Counts) (runnable : IsRunnable plan) (holds : HoldsRun files plan reached run) (served : IsServed feed drain offers inlets dests plan routers rounds reached run Quiet (Some counts))
    (clean : first_fault counts.sinks counts.stores counts.inlets ≡ None) where
  all-work : Works run.last
  all-work u store there =
      let none = (no-fault counts.sinks counts.stores counts.inlets clean).1 in
      let marks = map (λ (s : StoreState). s.failed) run.last.stores in
      let unnumbered : numbers_from 0 marks ≡ [] = sym ((served.runs).counted).stores ∙ none in
      false-of store.failed (λ is. unmarked 0 u marks unnumbered (slice_get-map (λ (s : StoreState). s.failed) run.last.stores u store there ∙ ap Some is))

  same-setup : setup_of run.last ≡ plan.setup
  same-setup = setup-last feed drain offers inlets dests files plan routers rounds reached run (Some counts) runnable holds served

  rounds-of : Rounds run.begun run.last run.made (((served.runs).serves).ends).last
  rounds-of = quiet-rounds feed drain offers inlets dests files plan routers rounds reached run (Some counts) runnable holds served

  -- the outlet of a destination
  outlet-of : (t : State) (d : ℕ) (x : Dest) → IsAt run.last t → slice_get t.dests d ≡ Some x → (closed : OutletState) × (slice_get reached.outlets_closed d ≡ Some closed)
  outlet-of t d x at there =
      let runs = served.runs in
      let took = (runs.serves).took in
      let low = slice_get-below t.dests d x there in
      let a = (shows-at run.last t at).every_sink in
      let b : length run.last.sinks ≡ length plan.setup.dests = sym (length-map run.last.sinks (λ (k : SinkState). k.setup)) ∙ ap (λ (s : Setup). length s.dests) same-setup in
      let c = runnable.dests in
      let e : length runs.dests_first ≡ length plan.outlets.items = sym (length-map runs.dests_first (λ (y : DestActor O). drain y.outlet)) ∙ (ap (λ os. length os) runs.outlets_opened ∙ served.all_outlets) in
      let f = took.all_dests in
      let g : length runs.dests_then ≡ length reached.outlets_closed = sym (length-map runs.dests_then (λ (y : DestActor O). drain y.outlet)) ∙ ap (λ os. length os) runs.outlets_closed in
      slice_get-some reached.outlets_closed d (omega (arith, low, a, b, c, e, f, g))

  none-left : (t : State) → IsAt run.last t → NoneLeft t.dests
  none-left t at d x there =
      let runs = served.runs in
      let closed = outlet-of t d x at there in
      let marks = map (λ (y : DestActor O). gave_up_outlet y.outage.given_up) runs.dests_then in
      let facts = dest-facts feed drain offers inlets dests files plan routers rounds reached run (Some counts) runnable holds served d closed.0 closed.1 in
      let none = (no-fault counts.sinks counts.stores counts.inlets clean).0 in
      let unnumbered : numbers_from 0 marks ≡ [] = sym (runs.counted).sinks ∙ none in
      elim (dest-rests-by plan.once run.begun run.last run.made ((runs.serves).ends).last rounds-of d closed.0 marks facts t x at there) [
        | inl left ↦ left
        | inr up ↦ absurd (elim up [
          | inl gave_up ↦ unmarked 0 d marks unnumbered (facts.is ∙ ap Some gave_up)
          | inr broken ↦ none-broken run.last t d x all-work at there broken
        ])
      ]

  -- Inlets.

  ended-of : (i : ℕ) (inlet : InletPlan) (setup : SourceSetup) (router : R) (closed : InletState) → slice_get plan.inlets.items i ≡ Some inlet → slice_get plan.setup.sources i ≡ Some setup → slice_get routers i ≡ Some router
      → slice_get reached.inlets_closed i ≡ Some closed → IsEnded (offers router) inlet setup i closed run.made
  ended-of i inlet setup router closed at_inlet at_setup at_router at_closed =
      let runs = served.runs in
      let q = rounds-of in
      let low = slice_get-below plan.inlets.items i inlet at_inlet in
      let opened = slice_get-some reached.inlets i (let n = served.all_inlets in omega (arith, low, n)) in
      let marks = map (λ (y : SourceActor R I). y.reader.failed) runs.sources_then in
      let facts = source-facts feed drain offers inlets dests files plan routers rounds reached run (Some counts) runnable holds served i inlet setup router opened.0 closed at_inlet at_setup at_router opened.1 at_closed in
      let none = (no-fault counts.sinks counts.stores counts.inlets clean).2 in
      let unnumbered : numbers_from 0 marks ≡ [] = sym (runs.counted).inlets ∙ none in
      let t = with_failed q.state (q.stayed).failed in
      let x = inlet-of-setup run.last t plan.setup i setup (q.stayed).at same-setup at_setup in
      let credit : credit_left t i ≡ setup.window = whole-credit t i x.0 (none-left t (q.stayed).at) x.1.0 ∙ ap (λ (s : SourceSetup). s.window) x.1.1 in
      elim facts.over [
        | inl refused ↦ absurd (
            let some = window-of plan.setup.sources i setup runnable.windows at_setup in
            let no = source-credit run.begun run.last run.made ((runs.serves).ends).last q i x.0 x.1.0 facts.unsent refused t (q.stayed).at in
            let wrong : ⊥ = omega (arith, some, no, credit) in
            wrong)
        | inr done ↦ elim done.0 [
          | inl ended ↦ record { ended = ended.0; whole = done.1; nothing_left = ended.1 }
          | inr failed ↦ absurd (unmarked 0 i marks unnumbered (facts.is ∙ ap Some failed))
        ]
      ]

  -- Stores.

  list-of : (d : ℕ) (setup : DestSetup) (buffer : BufferSetup) (disk : DiskState) → slice_get plan.setup.dests d ≡ Some setup → setup.buffer ≡ Some buffer → slice_get reached.stores_closed buffer.store ≡ Some disk → EachNow disk (IsListOf [])
  list-of d setup buffer disk at_setup has at_disk =
      let q = rounds-of in
      let t = with_failed q.state (q.stayed).failed in
      let at : IsAt run.last t = (q.stayed).at in
      let sink = get-map (λ (k : SinkState). k.setup) run.last.sinks d setup (ap (λ (s : Setup). slice_get s.dests d) same-setup ∙ at_setup) in
      let shown = dest-of run.last t d sink.0 at sink.1 in
      let same : (shown.dest).setup ≡ setup = ap (λ (k : SinkState). k.setup) (sym shown.shown) ∙ sym sink.2 in
      let has' : (shown.dest).setup.buffer ≡ Some buffer = ap (λ (s : DestSetup). s.buffer) same ∙ has in
      let store = get-map (λ (s : StoreState). s.disk) run.last.stores buffer.store disk (ap (λ ds. slice_get ds buffer.store) (sym (holds.core).closed) ∙ at_disk) in
      let back = at.buffers d shown.dest buffer shown.there has' in
      let is : back.store ≡ store.0 = backed run.last t d shown.dest buffer store.0 at shown.there has' store.1 in
      let none = none-left t at d shown.dest shown.there in
      let entries = (back.is).works (all-work buffer.store back.store back.there) in
      let empty : HoldsEntries back.store [] [] = subst (λ (es : List DestEntry). HoldsEntries back.store (spooled_of es) []) none entries in
      subst (λ (y : DiskState). EachNow y (IsListOf [])) (ap (λ (s : StoreState). s.disk) is ∙ sym store.2) (each-held back.store [] [] empty)

  position-of : (i : ℕ) (setup : SourceSetup) (s : ℕ) (disk : DiskState) → slice_get plan.setup.sources i ≡ Some setup → setup.store ≡ Some s → slice_get reached.stores_closed s ≡ Some disk
      → EachNow disk (IsPosition (last_end (position_at run.begun i) (brought_by i run.made)))
  position-of i setup s disk at_setup has at_disk =
      let runs = served.runs in
      let made = run.made in
      let took = (runs.serves).took in
      let low = slice_get-below plan.setup.sources i setup at_setup in
      let n = runnable.sources in
      let m : length runs.sources ≡ length plan.inlets.items = sym (length-map runs.sources (λ (y : SourceActor R I). feed y.inlet)) ∙ (ap (λ os. length os) runs.inlets_opened ∙ served.all_inlets) in
      let inlet = slice_get-some plan.inlets.items i (omega (arith, low, n)) in
      let a = slice_get-some runs.sources i (omega (arith, low, n, m)) in
      let b = slice_get-some runs.sources_then i (let k = took.all_sources in omega (arith, low, n, m, k)) in
      let marks = map (λ (y : SourceActor R I). y.reader.failed) runs.sources_then in
      let facts = source-known feed drain offers inlets dests files plan routers rounds reached run (Some counts) runnable holds served i inlet.0 setup a.0 b.0 inlet.1 at_setup a.1 b.1 in
      let first = begun plan reached run holds.core served.rewinds in
      let came = came-all run.begun run.last made first.state i took.makes first.at in
      let x = inlet-of-setup run.begun first.state plan.setup i setup first.at first.setup at_setup in
      let y = came.grows x.0 x.1.0 in
      let unbegun = first.unbegun i x.0 x.1.0 in
      let same = setup-at run.last came.state plan.setup i setup y.0 came.at same-setup at_setup y.1.0 in
      let has' : y.0.setup.store ≡ Some s = ap (λ (z : SourceSetup). z.store) same ∙ has in
      let store = get-map (λ (z : StoreState). z.disk) run.last.stores s disk (ap (λ ds. slice_get ds s) (sym (holds.core).closed) ∙ at_disk) in
      let works = all-work s store.0 store.1 in
      let place = placed run.last came.state i s y.0 store.0 came.at y.1.0 has' store.1 in
      let unlisted : is_listed s came.state.failed ≡ false = sym place.failed_is ∙ works in
      let stored = stored-rests (offers (a.0).router) run.begun run.last made ((runs.serves).ends).last rounds-of i inlet.0 setup (feed (a.0).inlet) (feed (b.0).inlet) marks facts came.state y.0 s came.at y.1.0 same has unlisted in
      let opening : y.0.opening ≡ position_at run.begun i = y.1.1.1 ∙ opening-of run.begun first.state i x.0 first.at x.1.0 unbegun in
      let ends : y.0.ends ≡ ends_of (brought_by i made) = y.1.1.0 ∙ ap (λ es. es ++ ends_of (brought_by i made)) unbegun in
      let last : mark_of came.state.dests i y.0 ≡ last_end (position_at run.begun i) (brought_by i made) =
      mark-last came.state.dests i 0 y.0.opening y.0.ends (none-left came.state came.at)
      ∙ ap (λ o. last_place o y.0.ends) opening
      ∙ ap (last_place (position_at run.begun i)) ends
      ∙ last-ends (position_at run.begun i) (brought_by i made) in
      subst (λ p. EachNow disk (IsPosition p)) (stored ∙ last)
      (subst (λ (z : DiskState). EachNow z (IsPosition y.0.stored)) (sym store.2) (place.works works))

  ends-served : EndsRounds offers plan routers reached run run.made
  ends-served = record {
    makes = (((served.runs).serves).took).makes;
    inlets = ended-of;
    dests = λ d state dest at there. none-left state at d dest there;
    lists = list-of;
    positions = position-of;
  }

ends-held : {R I O : Type 0} (feed : I → InletState) (drain : O → OutletState) (offers : R → ℕ → Record → List Offer → Type 0) (inlets dests : R → ℕ) (files : Option Files) (plan : RunPlan) (routers : List R) (rounds : ℕ) (reached : Reached)
    (core : Option CoreRun) (run : CoreRun) (counts : Counts) → IsRunnable plan → core ≡ Some run → first_fault counts.sinks counts.stores counts.inlets ≡ None
    → PlanRunHolds feed drain offers inlets dests files plan routers rounds reached core (Ran Quiet (Some counts)) → EndsRounds offers plan routers reached run run.made
ends-held feed drain offers inlets dests files plan routers rounds reached core run counts runnable is clean held =
    let both = subst (λ (c : Option CoreRun). PlanRunHolds feed drain offers inlets dests files plan routers rounds reached c (Ran Quiet (Some counts))) is held in
    ends-served feed drain offers inlets dests files plan routers rounds reached run counts runnable both.0 both.1 clean

pub clean-end : {R I O : Type 0} (feed : I → InletState) (drain : O → OutletState) (offers : R → ℕ → Record → List Offer → Type 0) (inlets dests : R → ℕ) → CleanRunsEnd feed drain offers inlets dests
clean-end feed drain offers inlets dests old new plan routers rounds counts reached run runnable is clean runs =
    ends-held feed drain offers inlets dests old.files plan routers rounds reached reached.core run counts runnable is clean runs.holds
