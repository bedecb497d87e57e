-- What a plan's runs come to, one after another, each of which was stopped at any moment, once its
-- core was open or before that.
use Rattle.std.specs.Prelude.{◌≡◌, ◌⊎◌, ◌≤◌, ℕ, ◌+◌, Bool, Option, Some, None, List, [], ◌∷◌, ◌++◌, map, take, slice_get}
use Rattle.sg_device.specs.Disk.{DiskState, content, clock, Durable, IsImageAt}
use Rattle.sg_device.specs.Inlet.{InletState}
use Rattle.sg_device.specs.Outlet.{OutletState}
use Rattle.sg_outside.specs.World.{WorldState, Files}
use Rattle.sg_msg.specs.declared.offer.Offer.{Offer}
use Rattle.sg_frame.specs.Records.{Record}
use Rattle.sg_machine.specs.declared.event.Event.{Event}
use Rattle.sg_machine.specs.Runs.{BufferedEntry}
use Rattle.sg_machine.specs.Safe.{nothing}
use Rattle.sg_stores.specs.Stores.{StoreState}
use Rattle.sg_standing.specs.Images.{AreImagesBetween}
use Rattle.sg_turns.specs.declared.ended.Ended.TheVariants.{Quiet}
use Rattle.sg_serve.specs.Counts.{first_fault}
use Rattle.sg_serve.specs.Plan.{IsRunnable}
use Rattle.sg_serve.specs.Run.{CoreRun, Reached, RunsWith}
use Rattle.sg_serve.specs.declared.counts.Counts.{Counts}
use Rattle.sg_serve.specs.declared.ending.PlanEnded.{PlanEnded}
use Rattle.sg_serve.specs.declared.ending.PlanEnded.TheVariants.{Ran}
use Rattle.sg_run_plan.specs.declared.plan.RunPlan.{RunPlan}
use Rattle.sg_laws.specs.Covered.{Pass, Delivery, Offers, Covered}
use Rattle.sg_laws.specs.Adding.{offers_in, position_in, AddUp}
use Rattle.sg_laws.specs.Passes.{Stopped, AreAdmitted}
use Rattle.sg_laws.specs.Happened.{AreImagesOf, AreListsBy, held_by, AreOfFiles, TellFiles, files_of, Happened, stopped_with}
use Rattle.sg_laws.specs.Clean.{AreFilesByLines}

-- A run, stopped once its core was open.

-- the plan with `--once`, or without it
abbrev pub asked : RunPlan → Bool → RunPlan
asked plan once = record {
  setup = plan.setup;
  inlets = plan.inlets;
  outlets = plan.outlets;
  stores = plan.stores;
  once = once;
}

-- Within the event of this number: the stores have images of moments within it.
pub record StopsWithin {offers : Offers} {files : Option Files} {plan : RunPlan} {reached : Reached}
    {run : CoreRun} (happened : Happened offers files plan reached run) (events : List Event)
    (event : Event) (images : List (List ℕ)) : Type 0 where
  pub number : ℕ
  pub at : slice_get (run.prelude ++ happened.later) number ≡ Some event
  pub events_are : events ≡ take number (run.prelude ++ happened.later)
  pub images_are : AreImagesBetween run.last.stores (((happened.ran).stands).moments.rows number)
      (((happened.ran).stands).moments.rows (number + 1)) images

-- at the return
pub record StopsThen {offers : Offers} {files : Option Files} {plan : RunPlan} {reached : Reached}
    {run : CoreRun} (happened : Happened offers files plan reached run) (events : List Event)
    (event : Event) (images : List (List ℕ)) : Type 0 where
  pub none : event ≡ nothing
  pub events_are : events ≡ run.prelude ++ happened.later
  pub images_are : AreImagesOf reached.stores_closed images

-- A run of the plan whose core was opened: what happened there, the bytes of its files, behind which events it was stopped with which one on,
-- and what that left in its stores. Offers are those of the routers `by`.
pub record PlanRun {R : Type 0} (offers : R → ℕ → Record → List Offer → Type 0) (plan : RunPlan)
    (by : List R) : Type 0 where
  pub once : Bool
  pub old : WorldState
  pub new : WorldState
  pub routers : List R
  pub rounds : ℕ
  pub ending : PlanEnded
  pub reached : Reached
  pub run : CoreRun
  pub happened : Happened (offers_in offers by) old.files (asked plan once) reached run
  pub bytes : ℕ → List ℕ
  pub events : List Event
  pub event : Event
  pub images : List (List ℕ)

-- each disk tells that it holds this
abbrev pub TellThese : List DiskState → List (List ℕ) → Type 0
TellThese disks images = (s : ℕ) (disk : DiskState) → slice_get disks s ≡ Some disk
    → (bytes : List ℕ) × ((slice_get images s ≡ Some bytes) × (content disk ≡ Some bytes))

-- so it was run, over stores that held this, and stopped
pub record IsPlanRun {R I O : Type 0} (feed : I → InletState) (drain : O → OutletState)
    (offers : R → ℕ → Record → List Offer → Type 0) (inlets dests : R → ℕ) (plan : RunPlan)
    (by : List R) (before : List (List ℕ)) (run : PlanRun offers plan by) : Type 0 where
  pub runs : RunsWith feed drain offers inlets dests run.old run.new (asked plan run.once)
      run.routers run.rounds run.ending run.reached
  pub core : run.reached.core ≡ Some run.run
  pub stores : TellThese run.reached.stores before
  pub files : TellFiles run.old.files (asked plan run.once) run.reached.inlets run.bytes
  pub stops : StopsWithin run.happened run.events run.event run.images
      ⊎ StopsThen run.happened run.events run.event run.images

-- it is this run that was stopped, with the first of the records that came in
pub record IsStopOf {R : Type 0} {offers : R → ℕ → Record → List Offer → Type 0} {plan : RunPlan}
    {by : List R} (run : PlanRun offers plan by) (stopped : Stopped) : Type 0 where
  pub came : List Pass
  pub rest : List Pass
  pub came_are : (run.happened).came ≡ came ++ rest
  pub admits : AreAdmitted (offers_in offers by) (run.events ++ run.event ∷ []) came
  pub lists : List (List BufferedEntry)
  pub lists_are : AreListsBy plan.setup.dests run.images lists
  pub is : stopped
      ≡ stopped_with (asked plan run.once) run.bytes ((run.happened).opens).opening run.events
      run.event came (held_by plan.setup run.images lists)

-- It ended quietly, with nothing counted as failed, and returned.
pub record EndsWell {R : Type 0} {offers : R → ℕ → Record → List Offer → Type 0} {plan : RunPlan}
    {by : List R} (run : PlanRun offers plan by) : Type 0 where
  pub counts : Counts
  pub ending_is : run.ending ≡ Ran Quiet (Some counts)
  pub well : first_fault counts.sinks counts.stores counts.inlets ≡ None
  pub returned : StopsThen run.happened run.events run.event run.images

-- A run, stopped before its core was open.

-- a run of the plan, and what the stop left in its stores
pub record UnopenedRun (R : Type 0) : Type 0 where
  pub once : Bool
  pub old : WorldState
  pub new : WorldState
  pub routers : List R
  pub rounds : ℕ
  pub ending : PlanEnded
  pub reached : Reached
  pub images : List (List ℕ)

-- the stores as they were once the core was open, or, where none was opened, as they were closed
abbrev pub stores_until : Reached → Option CoreRun → List DiskState
stores_until reached None = reached.stores_closed
stores_until reached (Some run) = map (λ (store : StoreState). store.disk) run.first.stores

-- a crash may leave these bytes of the disk at a moment between these two states, both included
pub record IsImageSince (old new : DiskState) (bytes : List ℕ) : Type 0 where
  pub moment : ℕ
  pub since : clock old ≤ moment
  pub before : moment ≤ clock new
  pub image : IsImageAt new moment bytes

-- one of each disk, each at its own moment
abbrev pub AreImagesSince : List DiskState → List DiskState → List (List ℕ) → Type 0
AreImagesSince olds news images = (s : ℕ) (old new : DiskState) → slice_get olds s ≡ Some old
    → slice_get news s ≡ Some new
    → (bytes : List ℕ) × ((slice_get images s ≡ Some bytes) × IsImageSince old new bytes)

-- Each store that was opened told these bytes, and a crash would have left them; it was stopped at
-- a moment up to the one at which the core was open, or up to the return where none was. The other
-- stores hold what they held.
pub record StopsUnopened (reached : Reached) (before images : List (List ℕ)) : Type 0 where
  pub stores : TellThese reached.stores before
  pub stable : (s : ℕ) (disk : DiskState) → slice_get reached.stores s ≡ Some disk → Durable disk
  pub images_are : AreImagesSince reached.stores (stores_until reached reached.core) images
  pub others : (s : ℕ) → slice_get reached.stores s ≡ None
      → slice_get images s ≡ slice_get before s

pub record IsUnopenedRun {R I O : Type 0} (feed : I → InletState) (drain : O → OutletState)
    (offers : R → ℕ → Record → List Offer → Type 0) (inlets dests : R → ℕ) (plan : RunPlan)
    (before : List (List ℕ)) (run : UnopenedRun R) : Type 0 where
  pub runs : RunsWith feed drain offers inlets dests run.old run.new (asked plan run.once)
      run.routers run.rounds run.ending run.reached
  pub stops : StopsUnopened run.reached before run.images

-- All runs.

-- a run, stopped once its core was open, or before that
pub data RunOf {R : Type 0} (offers : R → ℕ → Record → List Offer → Type 0) (plan : RunPlan)
    (by : List R) : Type 0 where
  Opened : PlanRun offers plan by → RunOf offers plan by
  Unopened : UnopenedRun R → RunOf offers plan by

abbrev pub Lengthen : (ℕ → List ℕ) → (ℕ → List ℕ) → Type 0
Lengthen old new = (i : ℕ) → (more : List ℕ) × (new i ≡ old i ++ more)

-- Each run begins with what the one before it left in its stores, over files that have only grown;
-- one that was stopped before its core was open has read none of them.
abbrev pub PlanRunsFollow : {R I O : Type 0} → (I → InletState) → (O → OutletState)
    → (offers : R → ℕ → Record → List Offer → Type 0) → (R → ℕ) → (R → ℕ) → (plan : RunPlan)
    → (by : List R) → (ℕ → List ℕ) → List (List ℕ) → List (RunOf offers plan by) → Type 0
PlanRunsFollow feed drain offers inlets dests plan by bytes before [] = Unit {0}
PlanRunsFollow feed drain offers inlets dests plan by bytes before (Opened run ∷ runs) =
    Lengthen bytes run.bytes × IsPlanRun feed drain offers inlets dests plan by before run
    × PlanRunsFollow feed drain offers inlets dests plan by run.bytes run.images runs
PlanRunsFollow feed drain offers inlets dests plan by bytes before (Unopened run ∷ runs) =
    IsUnopenedRun feed drain offers inlets dests plan before run
    × PlanRunsFollow feed drain offers inlets dests plan by bytes run.images runs

-- those that were stopped once their core was open
abbrev pub opened_among : {R : Type 0} {offers : R → ℕ → Record → List Offer → Type 0}
    {plan : RunPlan} {by : List R} → List (RunOf offers plan by) → List (PlanRun offers plan by)
opened_among [] = []
opened_among (Opened run ∷ runs) = run ∷ opened_among runs
opened_among (Unopened run ∷ runs) = opened_among runs

abbrev pub AreStopsOf : {R : Type 0} {offers : R → ℕ → Record → List Offer → Type 0}
    {plan : RunPlan} {by : List R} → List (PlanRun offers plan by) → List Stopped → Type 0
AreStopsOf [] [] = Unit {0}
AreStopsOf [] (s ∷ ss) = ⊥
AreStopsOf (run ∷ runs) [] = ⊥
AreStopsOf (run ∷ runs) (s ∷ ss) = IsStopOf run s × AreStopsOf runs ss

-- These lists stand in the images at the start, and this is what the runs add up to; those that
-- were stopped before their core was open add nothing.
pub record PlanRunsSum {R : Type 0} {offers : R → ℕ → Record → List Offer → Type 0} {plan : RunPlan}
    {by : List R} (taken : List Delivery) (passes : List Pass) (before : List (List ℕ))
    (runs : List (RunOf offers plan by)) (last : PlanRun offers plan by) : Type 0 where
  pub lists : List (List BufferedEntry)
  pub lists_are : AreListsBy plan.setup.dests before lists
  pub stopped : List Stopped
  pub stopped_last : Stopped
  pub stops : AreStopsOf (opened_among runs ++ last ∷ []) (stopped ++ stopped_last ∷ [])
  pub sum : AddUp plan.setup (offers_in offers by) taken passes (held_by plan.setup before lists)
      stopped stopped_last

-- What the stores held was covered by given passes and what was taken, up to the positions there in stored form too. The last run ended well.
-- Then each record of each file has a pass of which each offer with flow-control was taken at least once, and nothing else was taken than
-- offers.
abbrev pub PlanRunsAddUp : {R I O : Type 0} → (I → InletState) → (O → OutletState)
    → (R → ℕ → Record → List Offer → Type 0) → (R → ℕ) → (R → ℕ) → Type 0
PlanRunsAddUp {R} {I} {O} feed drain offers inlets dests =
    (plan : RunPlan) (by : List R) (bytes : ℕ → List ℕ) (taken : List Delivery) (passes : List Pass)
    (before : List (List ℕ)) (runs : List (RunOf offers plan by)) (last : PlanRun offers plan by)
    → IsRunnable plan → AreOfFiles plan → AreFilesByLines plan
    → ((lists : List (List BufferedEntry)) → AreListsBy plan.setup.dests before lists
    → Covered plan.setup (offers_in offers by) (files_of plan.inlets.items bytes) taken passes
    (position_in (held_by plan.setup before lists)) (held_by plan.setup before lists))
    → PlanRunsFollow feed drain offers inlets dests plan by bytes before (runs ++ Opened last ∷ [])
    → EndsWell last → PlanRunsSum taken passes before runs last
