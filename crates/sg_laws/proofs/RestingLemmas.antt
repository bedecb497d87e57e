-- What is left behind a quiet round.
use Rattle.std.proofs.Common.{◌≡◌, ℕ, Bool, true, false, List, [], Some, Option, ◌⊎◌, inl, inr, sym, ap, ◌∙◌, slice_get, subst}
use Rattle.sg_device.specs.Inlet.{InletState}
use Rattle.sg_device.specs.Outlet.{OutletState}
use Rattle.sg_outside.specs.World.{Files}
use Rattle.sg_msg.specs.declared.offer.Offer.{Offer}
use Rattle.sg_frame.specs.Records.{Record}
use Rattle.sg_machine.specs.declared.setup.Setup.{Setup}
use Rattle.sg_machine.specs.declared.setup.SourceSetup.{SourceSetup}
use Rattle.sg_machine.specs.declared.state.Dest.{Dest}
use Rattle.sg_machine.specs.declared.state.InletRecords.{InletRecords}
use Rattle.sg_machine.specs.declared.state.State.{State}
use Rattle.sg_machine.specs.Marks.{mark_of}
use Rattle.sg_machine.specs.Verdicts.{is_listed}
use Rattle.sg_counter.specs.Exchanges.{Exchange}
use Rattle.sg_standing.specs.States.{CoreState, setup_of}
use Rattle.sg_standing.specs.Standing.{IsAt, is_broken}
use Rattle.sg_run_plan.specs.declared.inlet.InletPlan.{InletPlan}
use Rattle.sg_turns.specs.declared.ended.Ended.TheVariants.{Quiet}
use Rattle.sg_serve.specs.Plan.{IsRunnable}
use Rattle.sg_serve.specs.Run.{CoreRun, Reached, HoldsRun, IsServed, PlanRunHolds}
use Rattle.sg_serve.specs.declared.counts.Counts.{Counts}
use Rattle.sg_serve.specs.declared.ending.PlanEnded.TheVariants.{Ran}
use Rattle.sg_run_plan.specs.declared.plan.RunPlan.{RunPlan}
use Rattle.sg_laws.specs.Resting.{SourceRestsAtEnd, RunRests, QuietRunsRest}
use Rattle.sg_laws.proofs.CalmLemmas.{with_failed}
use Rattle.sg_laws.proofs.AgreeLemmas.{agree-setup}
use Rattle.sg_laws.proofs.RoundLemmas.{Rounds, inlet-of-setup, source-credit, source-stored, source-failed, dest-left, dest-broken}
use Rattle.sg_laws.proofs.FactLemmas.{SourceFacts, DestFacts, quiet-rounds, setup-last, source-facts, dest-facts}

-- the setup of an inlet, whatever state the core is at
pub setup-at : (core : CoreState) (t : State) (setup : Setup) (i : ℕ) (s : SourceSetup) (x : InletRecords) → IsAt core t → setup_of core ≡ setup → slice_get setup.sources i ≡ Some s → slice_get t.inlets i ≡ Some x → x.setup ≡ s
setup-at core t setup i s x at same h there =
    let r = inlet-of-setup core t setup i s at same h in
    agree-setup core t t i x r.0 at at there r.1.0 ∙ r.1.1

-- the stored position is the mark, where the store works
pub stored-rests : (offers : ℕ → Record → List Offer → Type 0) (old new : CoreState) (made last : List Exchange) (q : Rounds old new made last) (i : ℕ) (inlet : InletPlan) (setup : SourceSetup) (opened closed : InletState) (marks : List Bool)
    → SourceFacts offers inlet setup i opened closed made last marks → (state : State) (x : InletRecords) (u : ℕ) → IsAt new state → slice_get state.inlets i ≡ Some x → x.setup ≡ setup → setup.store ≡ Some u → is_listed u state.failed ≡ false
    → x.stored ≡ mark_of state.dests i x
stored-rests offers old new made last q i inlet setup opened closed marks facts state x u at there same has works =
    let has' : x.setup.store ≡ Some u = ap (λ (s : SourceSetup). s.store) same ∙ has in
    elim (facts.stored u has) [
      | inl failure ↦ absurd (
          let listed = source-failed old new made q.first i u state x q.makes q.at_first failure at there has' in
          let wrong : true ≡ false = sym listed ∙ works in
          cc)
      | inr answered ↦ source-stored old new made last q i u state x answered at there has'
    ]

source-rests-by : (offers : ℕ → Record → List Offer → Type 0) (old new : CoreState) (made last : List Exchange) (q : Rounds old new made last) (plan : Setup) (i : ℕ) (inlet : InletPlan) (setup : SourceSetup) (opened closed : InletState) (marks : List Bool)
    → SourceFacts offers inlet setup i opened closed made last marks → setup_of new ≡ plan → slice_get plan.sources i ≡ Some setup → SourceRestsAtEnd offers inlet setup new i opened closed made
source-rests-by offers old new made last q plan i inlet setup opened closed marks facts same at_setup =
    let x = inlet-of-setup new (with_failed q.state (q.stayed).failed) plan i setup (q.stayed).at same at_setup in
    record {
      over = elim facts.over [
        | inl refused ↦ inr (source-credit old new made last q i x.0 x.1.0 facts.unsent refused)
        | inr done ↦ inl (record {
          over = elim done.0 [
            | inl ended ↦ inl ended.0
            | inr failed ↦ inr (facts.rose failed)
          ];
          whole = done.1;
        })
      ];
      stored = λ state y u at there has works. stored-rests offers old new made last q i inlet setup opened closed marks facts state y u at there (setup-at new state plan i setup y at same at_setup there) has works;
    }

-- of a destination
pub dest-rests-by : (once : Bool) (old new : CoreState) (made last : List Exchange) (q : Rounds old new made last) (d : ℕ) (closed : OutletState) (marks : List Bool) → (facts : DestFacts once d closed made last marks) → (state : State) (dest : Dest) → IsAt new state
    → slice_get state.dests d ≡ Some dest → (dest.left ≡ []) ⊎ ((facts.gave_up ≡ true) ⊎ (is_broken state.failed dest ≡ true))
dest-rests-by once old new made last q d closed marks facts state dest at there =
    elim facts.rests [
      | inl gave_up ↦ inr (inl gave_up)
      | inr rests ↦ elim rests [
        | inl breakage ↦ inr (inr (dest-broken old new made q.first d state dest q.makes q.at_first breakage at there))
        | inr shown ↦ inl (dest-left old new made last q d state dest shown at there)
      ]
    ]

rests-served : {R I O : Type 0} (feed : I → InletState) (drain : O → OutletState) (offers : R → ℕ → Record → List Offer → Type 0) (inlets dests : R → ℕ) (files : Option Files) (plan : RunPlan) (routers : List R) (rounds : ℕ) (reached : Reached) (run : CoreRun)
    (counts : Option Counts) → IsRunnable plan → HoldsRun files plan reached run → (served : IsServed feed drain offers inlets dests plan routers rounds reached run Quiet counts) → RunRests offers plan routers reached run run.made
rests-served feed drain offers inlets dests files plan routers rounds reached run counts runnable holds served =
    let made = run.made in
    let last = (((served.runs).serves).ends).last in
    let q = quiet-rounds feed drain offers inlets dests files plan routers rounds reached run counts runnable holds served in
    let same = setup-last feed drain offers inlets dests files plan routers rounds reached run counts runnable holds served in
    record {
      makes = q.makes;
      sources = λ i inlet setup router opened closed at_inlet at_setup at_router at_opened at_closed.
          let facts = source-facts feed drain offers inlets dests files plan routers rounds reached run counts runnable holds served i inlet setup router opened closed at_inlet at_setup at_router at_opened at_closed in
          source-rests-by (offers router) run.begun run.last made last q plan.setup i inlet setup opened closed _ facts same at_setup;
      dests = λ d closed at_closed state dest at there.
          let facts = dest-facts feed drain offers inlets dests files plan routers rounds reached run counts runnable holds served d closed at_closed in
          elim (dest-rests-by plan.once run.begun run.last made last q d closed _ facts state dest at there) [
            | inl none ↦ inl none
            | inr up ↦ elim up [
              | inl gave_up ↦ inr (inl (facts.failing gave_up))
              | inr broken ↦ inr (inr broken)
            ]
          ];
    }

rests-held : {R I O : Type 0} (feed : I → InletState) (drain : O → OutletState) (offers : R → ℕ → Record → List Offer → Type 0) (inlets dests : R → ℕ) (files : Option Files) (plan : RunPlan) (routers : List R) (rounds : ℕ) (reached : Reached)
    (core : Option CoreRun) (run : CoreRun) (counts : Option Counts) → IsRunnable plan → core ≡ Some run → PlanRunHolds feed drain offers inlets dests files plan routers rounds reached core (Ran Quiet counts)
    → RunRests offers plan routers reached run run.made
rests-held feed drain offers inlets dests files plan routers rounds reached core run counts runnable is held =
    let both = subst (λ (c : Option CoreRun). PlanRunHolds feed drain offers inlets dests files plan routers rounds reached c (Ran Quiet counts)) is held in
    rests-served feed drain offers inlets dests files plan routers rounds reached run counts runnable both.0 both.1

pub quiet-rest : {R I O : Type 0} (feed : I → InletState) (drain : O → OutletState) (offers : R → ℕ → Record → List Offer → Type 0) (inlets dests : R → ℕ) → QuietRunsRest feed drain offers inlets dests
quiet-rest feed drain offers inlets dests old new plan routers rounds counts reached run runnable is runs =
    rests-held feed drain offers inlets dests old.files plan routers rounds reached reached.core run counts runnable is runs.holds
