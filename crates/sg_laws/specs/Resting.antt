-- What is left behind a quiet round.
use Rattle.std.specs.Prelude.{◌≡◌, ◌⊎◌, ◌≤◌, ℕ, Bool, true, false, is_some, Option, Some, List, [], slice_get, IfSome}
use Rattle.std.specs.Option.{option_map}
use Rattle.sg_device.specs.Faults.{Rose}
use Rattle.sg_device.specs.Inlet.{InletState}
use Rattle.sg_device.specs.Outlet.{OutletState}
use Rattle.sg_outside.specs.World.{WorldState}
use Rattle.sg_msg.specs.declared.offer.Offer.{Offer}
use Rattle.sg_frame.specs.Records.{Record, records}
use Rattle.sg_machine.specs.declared.event.Admission.{Admission}
use Rattle.sg_machine.specs.declared.setup.SourceSetup.{SourceSetup}
use Rattle.sg_machine.specs.declared.state.Dest.{Dest}
use Rattle.sg_machine.specs.declared.state.InletRecords.{InletRecords}
use Rattle.sg_machine.specs.declared.state.State.{State}
use Rattle.sg_machine.specs.Marks.{mark_of}
use Rattle.sg_machine.specs.Verdicts.{is_listed}
use Rattle.sg_counter.specs.Exchanges.{Exchange, Makes, OfSource, calls_by}
use Rattle.sg_standing.specs.States.{CoreState}
use Rattle.sg_standing.specs.Standing.{IsAt, is_broken}
use Rattle.sg_core.specs.Answers.{credit_left}
use Rattle.sg_core.specs.Calls.{Serves}
use Rattle.sg_actor.specs.Bringing.{admitted_in}
use Rattle.sg_actor.specs.Sources.{AreOf}
use Rattle.sg_actor.specs.declared.settings.SourceSpec.{SourceSpec}
use Rattle.sg_run_plan.specs.declared.inlet.InletPlan.{InletPlan}
use Rattle.sg_turns.specs.declared.ended.Ended.TheVariants.{Quiet}
use Rattle.sg_serve.specs.Plan.{IsRunnable}
use Rattle.sg_serve.specs.Run.{CoreRun, Reached, RunsWith}
use Rattle.sg_serve.specs.declared.counts.Counts.{Counts}
use Rattle.sg_serve.specs.declared.ending.PlanEnded.TheVariants.{Ran}
use Rattle.sg_run_plan.specs.declared.plan.RunPlan.{RunPlan}

-- Sources.

-- the records of a source that came in, by these calls
abbrev pub brought_by : ℕ → List Exchange → List Admission
brought_by i made = admitted_in (calls_by (OfSource i) made)

-- how the source of an inlet of the plan is set up
abbrev pub spec_for : InletPlan → Option ℕ → ℕ → ℕ → SourceSpec
spec_for plan store i from = record {
  inlet = i;
  kind = plan.kind;
  limit = plan.limit;
  fetch = plan.fetch;
  from = from;
  stored = is_some store;
}

-- The records that came in are all that the inlet gave, in order, each with its end and its offers, where the inlet tells what it gave.
abbrev pub AreRecordsWhole : (ℕ → Record → List Offer → Type 0) → InletPlan → Option ℕ → ℕ
    → InletState
    → List Admission → Type 0
AreRecordsWhole offers plan store i closed brought =
    IfSome (option_map (records plan.kind plan.limit closed.from) closed.told)
    (λ given. AreOf offers (spec_for plan store i closed.from) given brought)

-- The inlet has ended or failed, and all its whole items came in.
pub record IsInletDone (offers : ℕ → Record → List Offer → Type 0) (plan : InletPlan)
    (store : Option ℕ) (i : ℕ) (opened closed : InletState)
    (brought : List Admission) : Type 0 where
  pub over : (closed.ended ≡ true) ⊎ Rose opened.faults closed.faults
  pub whole : AreRecordsWhole offers plan store i closed brought

-- the source has no credit, whatever state the core is at
abbrev pub HasNoCredit : CoreState → ℕ → Type 0
HasNoCredit core i = (state : State) → IsAt core state → credit_left state i ≡ 0

-- The inlet is done, or there is no credit. The stored position is the mark, where the store works.
pub record SourceRestsAtEnd (offers : ℕ → Record → List Offer → Type 0) (plan : InletPlan)
    (setup : SourceSetup) (core : CoreState) (i : ℕ) (opened closed : InletState)
    (made : List Exchange) : Type 0 where
  pub over : IsInletDone offers plan setup.store i opened closed (brought_by i made)
      ⊎ HasNoCredit core i
  pub stored : (state : State) (inlet : InletRecords) (s : ℕ) → IsAt core state
      → slice_get state.inlets i ≡ Some inlet → setup.store ≡ Some s
      → is_listed s state.failed ≡ false → inlet.stored ≡ mark_of state.dests i inlet

-- Destinations.

-- With `--once` three sends or reopenings of the outlet failed, and no frame was taken since; or the store of the disk-buffer has failed.
abbrev pub IsGivenUp : Bool → OutletState → List ℕ → Dest → Type 0
IsGivenUp once closed failed dest = ((once ≡ true) × (3 ≤ closed.failing))
    ⊎ (is_broken failed dest ≡ true)

-- no entry is left, or the destination is given up
abbrev pub DestRestsAtEnd : Bool → CoreState → ℕ → OutletState → Type 0
DestRestsAtEnd once core d closed =
    (state : State) (dest : Dest) → IsAt core state → slice_get state.dests d ≡ Some dest
    → (dest.left ≡ []) ⊎ IsGivenUp once closed state.failed dest

-- The whole.

-- these calls were made in the rounds, and leave this
pub record RunRests {R : Type 0} (offers : R → ℕ → Record → List Offer → Type 0) (plan : RunPlan)
    (routers : List R) (reached : Reached) (run : CoreRun) (made : List Exchange) : Type 0 where
  pub makes : Makes Serves run.begun made run.last
  pub sources :
      (i : ℕ) (inlet : InletPlan) (setup : SourceSetup) (router : R) (opened closed : InletState)
      → slice_get plan.inlets.items i ≡ Some inlet → slice_get plan.setup.sources i ≡ Some setup
      → slice_get routers i ≡ Some router
      → slice_get reached.inlets i ≡ Some opened → slice_get reached.inlets_closed i ≡ Some closed
      → SourceRestsAtEnd (offers router) inlet setup run.last i opened closed made
  pub dests : (d : ℕ) (closed : OutletState) → slice_get reached.outlets_closed d ≡ Some closed
      → DestRestsAtEnd plan.once run.last d closed

-- so it is where the rounds ended quietly
abbrev pub QuietRunsRest : {R I O : Type 0} → (I → InletState) → (O → OutletState)
    → (R → ℕ → Record → List Offer → Type 0) → (R → ℕ) → (R → ℕ) → Type 0
QuietRunsRest {R} {I} {O} feed drain offers inlets dests =
    (old new : WorldState) (plan : RunPlan) (routers : List R) (rounds : ℕ) (counts : Option Counts)
    (reached : Reached) (run : CoreRun) → IsRunnable plan → reached.core ≡ Some run
    → RunsWith feed drain offers inlets dests old new plan routers rounds (Ran Quiet counts) reached
    → RunRests offers plan routers reached run run.made
