-- The stores that are told to have failed failed in the run.
use Rattle.std.proofs.Common.{◌≡◌, ◌<◌, ℕ, ◌+◌, zero, suc, Bool, true, false, List, [], ◌∷◌, length, map, Some, None, Option, inl, inr, refl, sym, ap, ◌∙◌, arith, slice_get, subst}
use Rattle.std.proofs.lemmas.List.{append-nil}
use Rattle.sg_list.specs.Lists.{change}
use Rattle.sg_list.proofs.ListLemmas.{some-same, slice_get-map, slice_get-some, slice_get-below}
use Rattle.sg_device.specs.Inlet.{InletState}
use Rattle.sg_device.specs.Outlet.{OutletState}
use Rattle.sg_outside.specs.World.{Files}
use Rattle.sg_msg.specs.declared.offer.Offer.{Offer}
use Rattle.sg_frame.specs.Records.{Record}
use Rattle.sg_machine.specs.declared.event.Event.{Event}
use Rattle.sg_machine.specs.declared.setup.Setup.{Setup}
use Rattle.sg_machine.specs.declared.setup.SourceSetup.{SourceSetup}
use Rattle.sg_machine.specs.declared.state.InletRecords.{InletRecords}
use Rattle.sg_machine.specs.declared.state.State.{State}
use Rattle.sg_machine.specs.Effects.{rewound}
use Rattle.sg_machine.specs.Runs.{opened, opened_inlets, after_all}
use Rattle.sg_machine.specs.Verdicts.{is_listed}
use Rattle.sg_machine.proofs.RunLemmas.{after_all-append}
use Rattle.sg_counter.specs.Bringing.{store_in}
use Rattle.sg_stores.specs.Stores.{StoreState, AllGo}
use Rattle.sg_stores.proofs.GetLemmas.{get-map}
use Rattle.sg_standing.specs.States.{CoreState, setup_of}
use Rattle.sg_standing.specs.Standing.{IsAt}
use Rattle.sg_core.specs.Opening.{buffer_store_in}
use Rattle.sg_core.proofs.Faults.{listed-position, listed-buffer}
use Rattle.sg_turns.specs.declared.ended.Ended.{Ended}
use Rattle.sg_serve.specs.Counts.{numbers_from}
use Rattle.sg_serve.specs.Rewinds.{position_at, rewinds_at, rewinds_from, places_of}
use Rattle.sg_serve.specs.Run.{CoreRun, Reached, RoseAt, HoldsCore, HoldsRun, IsServed, PlanRunHolds}
use Rattle.sg_serve.specs.declared.counts.Counts.{Counts}
use Rattle.sg_serve.specs.declared.ending.PlanEnded.TheVariants.{Ran}
use Rattle.sg_run_plan.specs.declared.plan.RunPlan.{RunPlan}
use Rattle.sg_laws.specs.Failing.{IsUsed, AreUsed, FailedStoresCount}
use Rattle.sg_laws.proofs.StepLemmas.{RoseOf, rose-wide, went-all}
use Rattle.sg_stores.proofs.OpenLemmas.{opened-later}

-- Lists.

-- a number in the list is the place of a mark
pub marked : (k n d : ℕ) (marks : List Bool) → slice_get (numbers_from k marks) n ≡ Some d → (j : ℕ) × ((slice_get marks j ≡ Some true) × (d ≡ k + j))
marked k n d [] h = absurd (let wrong : None ≡ Some d = h in cc)
marked k zero d (true ∷ marks) h = let same = some-same k d h in (0, (refl, omega (arith, same)))
marked k (suc n) d (true ∷ marks) h = let r = marked (k + 1) n d marks h in let at = r.1.1 in (suc r.0, (r.1.0, omega (arith, at)))
marked k n d (false ∷ marks) h = let r = marked (k + 1) n d marks h in let at = r.1.1 in (suc r.0, (r.1.0, omega (arith, at)))

-- whether a store that is used has failed is told by each state
pub listed-used : (core : CoreState) (t : State) (setup : Setup) (u : ℕ) (store : StoreState) → IsAt core t → setup_of core ≡ setup → IsUsed setup u → slice_get core.stores u ≡ Some store → store.failed ≡ is_listed u t.failed
listed-used core t setup u store at same (inl (i, has)) get = listed-position core t i u store at (ap (λ (s : Setup). store_in s.sources i) same ∙ has) get
listed-used core t setup u store at same (inr (d, has)) get = listed-buffer core t d u store at (ap (λ (s : Setup). buffer_store_in s.dests d) same ∙ has) get

-- The beginning of the rounds.

one-failed : (i position place : ℕ) (s : State) → (after_all s (rewinds_at i position place)).failed ≡ s.failed
one-failed i zero place s = refl
one-failed i (suc position) (suc place) s = refl
one-failed i (suc position) zero s = append-nil s.failed

rewinds-failed : (positions : ℕ → ℕ) (i : ℕ) (places : List ℕ) (s : State) → (after_all s (rewinds_from positions i places)).failed ≡ s.failed
rewinds-failed positions i [] s = refl
rewinds-failed positions i (place ∷ places) s =
    let one = rewinds_at i (positions i) place in
    ap (λ (t : State). t.failed) (after_all-append s one (rewinds_from positions (i + 1) places))
    ∙ rewinds-failed positions (i + 1) places (after_all s one)
    ∙ one-failed i (positions i) place s

-- no record came in
abbrev AreUnbegun : List InletRecords → Type 0
AreUnbegun [] = Unit {0}
AreUnbegun (x ∷ xs) = (x.ends ≡ []) × AreUnbegun xs

opened-unbegun : (setups : List SourceSetup) (places : List ℕ) → AreUnbegun (opened_inlets setups places)
opened-unbegun [] places = tt
opened-unbegun (s ∷ ss) [] = (refl, opened-unbegun ss [])
opened-unbegun (s ∷ ss) (p ∷ ps) = (refl, opened-unbegun ss ps)

rewound-unbegun : (inlets : List InletRecords) (k : ℕ) → AreUnbegun inlets → AreUnbegun (change inlets k rewound)
rewound-unbegun [] k h = h
rewound-unbegun (x ∷ xs) zero h = h
rewound-unbegun (x ∷ xs) (suc k) h = (h.0, rewound-unbegun xs k h.1)

one-unbegun : (i position place : ℕ) (s : State) → AreUnbegun s.inlets → AreUnbegun (after_all s (rewinds_at i position place)).inlets
one-unbegun i zero place s h = h
one-unbegun i (suc position) (suc place) s h = h
one-unbegun i (suc position) zero s h = rewound-unbegun s.inlets i h

rewinds-unbegun : (positions : ℕ → ℕ) (i : ℕ) (places : List ℕ) (s : State) → AreUnbegun s.inlets → AreUnbegun (after_all s (rewinds_from positions i places)).inlets
rewinds-unbegun positions i [] s h = h
rewinds-unbegun positions i (place ∷ places) s h =
    let one = rewinds_at i (positions i) place in
    subst (λ (t : State). AreUnbegun t.inlets) (sym (after_all-append s one (rewinds_from positions (i + 1) places)))
    (rewinds-unbegun positions (i + 1) places (after_all s one) (one-unbegun i (positions i) place s h))

unbegun-at : (inlets : List InletRecords) (i : ℕ) (x : InletRecords) → AreUnbegun inlets → slice_get inlets i ≡ Some x → x.ends ≡ []
unbegun-at [] i x h there = absurd (let wrong : None ≡ Some x = there in cc)
unbegun-at (y ∷ ys) zero x h there = subst (λ (z : InletRecords). z.ends ≡ []) (some-same y x there) h.0
unbegun-at (y ∷ ys) (suc i) x h there = unbegun-at ys i x h.1 there

-- the state at which the rounds begin
pub record Begun (plan : RunPlan) (reached : Reached) (run : CoreRun) : Type 0 where
  pub state : State
  pub at : IsAt run.begun state
  pub works : (u : ℕ) → is_listed u state.failed ≡ false
  pub unbegun : (i : ℕ) (x : InletRecords) → slice_get state.inlets i ≡ Some x → x.ends ≡ []
  pub goes : AllGo run.first.stores run.begun.stores
  pub setup : setup_of run.begun ≡ plan.setup

pub begun : (plan : RunPlan) (reached : Reached) (run : CoreRun) → HoldsCore plan.setup reached run → run.prelude ≡ rewinds_from (position_at run.first) 0 (places_of reached.inlets) → Begun plan reached run
begun plan reached run core rewinds =
    let o = core.opens in
    let start = opened plan.setup o.opening in
    let stands = (core.begins).stands plan.setup o.opening o.stands in
    let none : (after_all start run.prelude).failed ≡ [] = ap (λ (es : List Event). (after_all start es).failed) rewinds ∙ rewinds-failed (position_at run.first) 0 (places_of reached.inlets) start in
    record {
      state = after_all start run.prelude;
      at = stands.at;
      works = λ u. ap (is_listed u) none;
      unbegun = λ i x there.
          let all = rewinds-unbegun (position_at run.first) 0 (places_of reached.inlets) start (opened-unbegun plan.setup.sources (o.opening).places) in
          unbegun-at (after_all start run.prelude).inlets i x (subst (λ (es : List Event). AreUnbegun (after_all start es).inlets) (sym rewinds) all) there;
      goes = (core.begins).goes;
      setup = (core.begins).setup ∙ o.setups;
    }

-- The whole run.

-- a store that failed since the rounds began failed in the run
rose-in : (plan : RunPlan) (reached : Reached) (run : CoreRun) (s : ℕ) (store : StoreState) → HoldsCore plan.setup reached run → AllGo run.first.stores run.begun.stores → AllGo run.begun.stores run.last.stores → RoseOf run.begun.stores run.last.stores s
    → slice_get run.last.stores s ≡ Some store → RoseAt reached.stores reached.stores_closed s
rose-in plan reached run s store core goes went rose get =
    let o = core.opens in
    let a = o.stores in
    let low = slice_get-below run.last.stores s store get in
    let mid = slice_get-some run.begun.stores s (let n = went.count in omega (arith, low, n)) in
    let was = slice_get-some run.first.stores s (let n = went.count in let m = goes.count in omega (arith, low, n, m)) in
    let disk = slice_get-some reached.stores s (let n = went.count in let m = goes.count in let k = a.count in omega (arith, low, n, m, k)) in
    let below = slice_get-below reached.stores s disk.0 disk.1 in
    let found = slice_get-some o.founds s (let m = a.looked in omega (arith, below, m)) in
    let kind = slice_get-some o.kinds s (let m = (o.kinds_are).many in omega (arith, below, m)) in
    let later = opened-later kind.0 disk.0 found.0 was.0 (a.each s kind.0 disk.0 found.0 was.0 kind.1 disk.1 found.1 was.1) in
    let on = (goes.each s was.0 mid.0 was.1 mid.1).later in
    let closed : slice_get reached.stores_closed s ≡ Some store.disk = ap (λ ds. slice_get ds s) core.closed ∙ slice_get-map (λ (x : StoreState). x.disk) run.last.stores s store get in
    (disk.0, (store.disk, (disk.1, closed, rose-wide disk.0.faults mid.0.disk.faults store.disk.faults store.disk.faults (omega (arith, later, on)) (rose mid.0 store mid.1 get) (omega arith))))

failed-served : {R I O : Type 0} (feed : I → InletState) (drain : O → OutletState) (offers : R → ℕ → Record → List Offer → Type 0) (inlets dests : R → ℕ) (files : Option Files) (plan : RunPlan) (routers : List R) (rounds : ℕ) (reached : Reached) (run : CoreRun)
    (ended : Ended) (counts : Counts) → AreUsed plan → HoldsRun files plan reached run → IsServed feed drain offers inlets dests plan routers rounds reached run ended (Some counts) → (k s : ℕ) → slice_get counts.stores k ≡ Some s
    → RoseAt reached.stores reached.stores_closed s
failed-served feed drain offers inlets dests files plan routers rounds reached run ended counts used holds served k s h =
    let runs = served.runs in
    let core = holds.core in
    let took = (runs.serves).took in
    let marks = map (λ (x : StoreState). x.failed) run.last.stores in
    let r = marked 0 k s marks (ap (λ ds. slice_get ds k) (sym (runs.counted).stores) ∙ h) in
    let j = r.0 in
    let number : s ≡ j = let at = r.1.1 in omega (arith, at) in
    let store = get-map (λ (x : StoreState). x.failed) run.last.stores j true r.1.0 in
    let b = begun plan reached run core served.rewinds in
    let went = went-all run.begun run.last run.made b.state took.makes b.at in
    let w = went.1 in
    let low = slice_get-below run.last.stores j store.0 store.1 in
    let count : j < length plan.stores.items =
    let n = w.goes.count in let m = b.goes.count in let o = ((core.opens).stores).count in let p = holds.all_stores in omega (arith, low, n, m, o, p) in
    let listed : is_listed j went.0.failed ≡ true = sym (listed-used run.last went.0 plan.setup j store.0 w.at (w.setup ∙ b.setup) (used j count) store.1) ∙ sym store.2 in
    subst (λ n. RoseAt reached.stores reached.stores_closed n) (sym number)
    (elim (w.rose j listed) [
      | inl before ↦ absurd (let wrong : false ≡ true = sym (b.works j) ∙ before in cc)
      | inr rose ↦ rose-in plan reached run j store.0 core b.goes w.goes rose store.1
    ])

failed-held : {R I O : Type 0} (feed : I → InletState) (drain : O → OutletState) (offers : R → ℕ → Record → List Offer → Type 0) (inlets dests : R → ℕ) (files : Option Files) (plan : RunPlan) (routers : List R) (rounds : ℕ) (reached : Reached)
    (core : Option CoreRun) (ended : Ended) (counts : Counts) → AreUsed plan → PlanRunHolds feed drain offers inlets dests files plan routers rounds reached core (Ran ended (Some counts)) → (k s : ℕ) → slice_get counts.stores k ≡ Some s
    → RoseAt reached.stores reached.stores_closed s
failed-held feed drain offers inlets dests files plan routers rounds reached None ended counts used holds k s h = absurd holds
failed-held feed drain offers inlets dests files plan routers rounds reached (Some run) ended counts used (holds, served) k s h =
    failed-served feed drain offers inlets dests files plan routers rounds reached run ended counts used holds served k s h

pub failed-count : {R I O : Type 0} (feed : I → InletState) (drain : O → OutletState) (offers : R → ℕ → Record → List Offer → Type 0) (inlets dests : R → ℕ) → FailedStoresCount feed drain offers inlets dests
failed-count feed drain offers inlets dests old new plan routers rounds ended counts reached runnable used runs k s h =
    failed-held feed drain offers inlets dests old.files plan routers rounds reached reached.core ended counts used runs.holds k s h
