-- For every configuration, input and interleaving, each destination takes from each source, in order, a prefix of exactly the texts that
-- the log statements give for each record alone, less those dropped without flow-control at a full or failed buffer; unacknowledged
-- records never exceed a source's window; and a stop within any write leaves each flow-controlled record of a file beyond the stored
-- position, in its disk-buffer, or accepted.
use Rattle.std.specs.Prelude.{◌≡◌, ℕ, ◌+◌, true, Option, Some, None, List, [], ◌∷◌, ◌++◌, take, slice_get}
use Rattle.std.specs.Option.{option_map}
use Rattle.sg_device.specs.Disk.{clock}
use Rattle.sg_device.specs.Inlet.{InletState}
use Rattle.sg_device.specs.Outlet.{OutletState}
use Rattle.sg_outside.specs.World.{WorldState}
use Rattle.sg_msg.specs.Message.{Content}
use Rattle.sg_msg.specs.declared.offer.Offer.{Offer}
use Rattle.sg_frame.specs.Records.{Record, records}
use Rattle.sg_outfmt.specs.Frame.{frame_of}
use Rattle.sg_machine.specs.declared.event.Act.TheVariants.{Admit}
use Rattle.sg_machine.specs.declared.event.Admission.{Admission}
use Rattle.sg_machine.specs.declared.event.Event.{Event}
use Rattle.sg_machine.specs.declared.event.Verdict.{Verdict}
use Rattle.sg_machine.specs.declared.state.Dest.{Dest}
use Rattle.sg_machine.specs.declared.state.State.{State}
use Rattle.sg_machine.specs.Effects.{next_of}
use Rattle.sg_machine.specs.Runs.{BufferedEntry, opened, after_all, are_legal}
use Rattle.sg_machine.specs.Safe.{Safe, nothing}
use Rattle.sg_machine.specs.Verdicts.{claims_of}
use Rattle.sg_stores.specs.Stores.{StoreState}
use Rattle.sg_standing.specs.Images.{positions_in, AreListsIn, AreImages, AreImagesBetween}
use Rattle.sg_standing.specs.Standing.{StandsFor}
use Rattle.sg_core.specs.Opening.{IsOpen}
use Rattle.sg_run_plan.specs.declared.inlet.InletPlan.{InletPlan}
use Rattle.sg_run_plan.specs.declared.outlet.OutletPlan.{OutletPlan}
use Rattle.sg_laws.specs.ByPath.{TakesByPath}
use Rattle.sg_laws.specs.Calls.{Ran}
use Rattle.sg_laws.specs.Drops.{AreOffersDue}
use Rattle.sg_laws.specs.Failing.{ShowsFaults}
use Rattle.sg_laws.specs.Fronts.{IsDestThroughout, TakesSettled, ShowsTaken}
use Rattle.sg_laws.specs.Texts.{taken_from, TakesFirstTexts}
use Rattle.sg_laws.specs.Laws.{StayWithin}
use Rattle.sg_serve.specs.declared.ending.PlanEnded.{PlanEnded}
use Rattle.sg_run_plan.specs.declared.plan.RunPlan.{RunPlan}
use Rattle.sg_serve.specs.Plan.{IsRunnable}
use Rattle.sg_serve.specs.Run.{CoreRun, Reached, RunsWith}

-- Words of the sentence.

-- a text: the frame of a message at a destination, by the shape and the environment of its outlet in the plan
abbrev pub frame_planned : Option OutletPlan → Content → List ℕ
frame_planned None message = []
frame_planned (Some plan) message = frame_of plan.shape message plan.env

abbrev pub frame_at : List OutletPlan → ℕ → Content → List ℕ
frame_at plans d message = frame_planned (slice_get plans d) message

-- each record: those that an inlet gave, in order, from the place on at which it was opened, where it tells what it gave
abbrev pub records_of : InletPlan → InletState → Option (List Record)
records_of plan feed = option_map (records plan.kind plan.limit feed.from) feed.told

-- each destination takes from each source, in order, a prefix of exactly the texts that the log statements, which are the source's router,
-- give for each record alone, less those whose verdict dropped them
abbrev pub TakesPrefixes : {R : Type 0} → (R → ℕ → Record → List Offer → Type 0) → RunPlan → List R
    → Reached → State → List Event → Type 0
TakesPrefixes {R} offers plan routers reached start events =
    (i d : ℕ) (inlet : InletPlan) (router : R) (closed : InletState) (first last : Dest)
    → slice_get plan.inlets.items i ≡ Some inlet → slice_get routers i ≡ Some router
    → slice_get reached.inlets_closed i ≡ Some closed
    → IsDestThroughout start [] events d first last
    → TakesFirstTexts (offers router) (frame_at plan.outlets.items) i d (records_of inlet closed)
    events
    (taken_from (frame_at plan.outlets.items) i d first last) last.left

-- takes: since its outlet was opened, that took the frames of the entries settled, no more and no fewer
abbrev pub TakesThese : RunPlan → Reached → CoreRun → State → List Event → Type 0
TakesThese plan reached run start events =
    (d : ℕ) (new closed : OutletState) (first last : Dest) → slice_get reached.outlets d ≡ Some new
    → slice_get reached.outlets_closed d ≡ Some closed
    → IsDestThroughout start [] events d first last
    → TakesSettled (frame_at plan.outlets.items d) run.first.stores first last new closed

-- accepted: each settling of a destination showed a number that its outlet had told, and that is the number of entries that are settled
-- with it; since such a number is had from an outlet alone, the frames of all of these had been taken by then
abbrev pub ShowsAccepted : Reached → CoreRun → Type 0
ShowsAccepted reached run = (d : ℕ) (new : OutletState) → slice_get reached.outlets d ≡ Some new
    → ShowsTaken new.count d run.made

-- The sentence, over the events from a start on.

pub record HeadlineOf {R : Type 0} (offers : R → ℕ → Record → List Offer → Type 0) (plan : RunPlan)
    (routers : List R) (reached : Reached) (run : CoreRun) (start : State)
    (events : List Event) : Type 0 where
  pub texts : TakesPrefixes offers plan routers reached start events
  pub taken : TakesThese plan reached run start events
  -- each text goes to the file that its message names, where messages do
  pub by_path : TakesByPath plan reached run start events
  -- each verdict is one that there may be
  pub legal : are_legal start events ≡ true
  -- dropped without flow-control at a full or failed buffer
  pub due : (before later : List Event) (i : ℕ) (admitted : List Admission)
      (verdicts : List Verdict) (failed : List ℕ)
      → events ≡ before ++ record { act = Admit i admitted verdicts; failed = failed } ∷ later
      → AreOffersDue i (next_of (after_all start before) i) (after_all start before).dests
      ((after_all start before).failed ++ failed) (claims_of admitted) verdicts
  -- unacknowledged records never exceed a source's window
  pub windows : StayWithin start events
  -- what was opened stands for all of it at the end
  pub stands : StandsFor run.last start events
  -- the first row of its timetable are the moments at which the core was open
  pub begins : (s : ℕ) (store : StoreState) → slice_get run.first.stores s ≡ Some store
      → stands.moments.rows 0 s ≡ clock store.disk
  -- a stop within any write leaves each flow-controlled record of a file beyond the stored position, in its disk-buffer, or accepted:
  -- whatever images of the stores are chosen of moments within one event, or at the end
  pub stop : (k : ℕ) (event : Event) (images : List (List ℕ)) (lists : List (List BufferedEntry))
      → slice_get events k ≡ Some event → AreImagesBetween run.last.stores (stands.moments.rows k)
      (stands.moments.rows (k + 1)) images
      → AreListsIn run.last.sinks images lists → Safe start (take k events) event
      (record { positions = positions_in run.last.sources images; lists = lists })
  pub stop_then : (images : List (List ℕ)) (lists : List (List BufferedEntry))
      → AreImages run.last.stores images → AreListsIn run.last.sinks images lists
      → Safe start events nothing
      (record { positions = positions_in run.last.sources images; lists = lists })

-- Every interleaving: the events are those of the sources that begin anew, and then those of the calls, in the order in which the core
-- served them; they begin with what the stores had.
pub record Headline {R : Type 0} (offers : R → ℕ → Record → List Offer → Type 0) (plan : RunPlan)
    (routers : List R) (reached : Reached) (run : CoreRun) : Type 0 where
  pub opens : IsOpen plan.setup reached.stores run.first
  pub later : List Event
  pub ran : Ran run.begun run.last run.made (opened plan.setup opens.opening) run.prelude later
  -- accepted: what is settled at any moment had been taken before
  pub accepted : ShowsAccepted reached run
  -- a store has failed, and a reply or a drop tells it, exactly where a call on its disk has answered a fault
  pub faults : ShowsFaults reached run
  pub holds : HeadlineOf offers plan routers reached run (opened plan.setup opens.opening)
      (run.prelude ++ later)

-- as far as the run came: without a core no inlet and no outlet was opened
abbrev pub Delivers : {R : Type 0} → (R → ℕ → Record → List Offer → Type 0) → RunPlan → List R
    → Reached → Option CoreRun → Type 0
Delivers offers plan routers reached None = (reached.inlets ≡ []) × (reached.outlets ≡ [])
Delivers offers plan routers reached (Some run) = Headline offers plan routers reached run

-- every configuration and input: so it is in each run of a plan, however it ended
abbrev pub RunsDeliver : {R I O : Type 0} → (I → InletState) → (O → OutletState)
    → (R → ℕ → Record → List Offer → Type 0) → (R → ℕ) → (R → ℕ) → Type 0
RunsDeliver {R} {I} {O} feed drain offers inlets dests =
    (old new : WorldState) (plan : RunPlan) (routers : List R) (rounds : ℕ) (ending : PlanEnded)
    (reached : Reached) → IsRunnable plan
    → RunsWith feed drain offers inlets dests old new plan routers rounds ending reached
    → Delivers offers plan routers reached reached.core
