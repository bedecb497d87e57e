-- What a plan's runs come to from new stores on: what is left is covered, and where each run ended clean, each offer was taken once.
use Rattle.std.specs.Prelude.{◌≡◌, ℕ, Some, List, [], ◌∷◌, ◌++◌, length, map, replicate, slice_get}
use Rattle.sg_device.specs.Inlet.{InletState}
use Rattle.sg_device.specs.Outlet.{OutletState}
use Rattle.sg_outside.specs.declared.request.InletSpec.{InletSpec}
use Rattle.sg_outside.specs.declared.request.InletSpec.TheVariants.{File, Slot}
use Rattle.sg_msg.specs.declared.offer.Offer.{Offer}
use Rattle.sg_frame.specs.Records.{Record}
use Rattle.sg_machine.specs.Runs.{BufferedEntry}
use Rattle.sg_run_plan.specs.declared.inlet.InletPlan.{InletPlan}
use Rattle.sg_serve.specs.Plan.{IsRunnable}
use Rattle.sg_run_plan.specs.declared.plan.RunPlan.{RunPlan}
use Rattle.sg_laws.specs.Covered.{IsFile, Covered}
use Rattle.sg_laws.specs.Adding.{offers_in, all_taken, all_passes}
use Rattle.sg_laws.specs.Once.{ExactlyOnce}
use Rattle.sg_laws.specs.Passes.{Stopped}
use Rattle.sg_laws.specs.Happened.{AreListsBy, AreOfFiles, held_by, files_of}
use Rattle.sg_laws.specs.Clean.{AreFilesByLines}
use Rattle.sg_laws.specs.PlanRuns.{PlanRun, EndsWell, RunOf, Opened, Unopened, PlanRunsFollow, opened_among, AreStopsOf}

-- the stores of a plan as they are made: 128 zero bytes each
abbrev pub new_stores : RunPlan → List (List ℕ)
new_stores plan = replicate (length plan.stores.items) (replicate 128 0)

-- New stores, of whose files nothing was read, are covered by nothing.
abbrev pub NewAreCovered : {R : Type 0} → (R → ℕ → Record → List Offer → Type 0) → Type 0
NewAreCovered {R} offers =
    (plan : RunPlan) (by : List R) (bytes : ℕ → List ℕ) (places : ℕ → ℕ)
    (lists : List (List BufferedEntry)) → IsRunnable plan
    → AreListsBy plan.setup.dests (new_stores plan) lists
    → Covered plan.setup (offers_in offers by) (files_of plan.inlets.items bytes) [] [] places
    (held_by plan.setup (new_stores plan) lists)

-- Any runs.

-- what the last of them left in its stores, and what its files held
abbrev pub images_left : {R : Type 0} {offers : R → ℕ → Record → List Offer → Type 0}
    {plan : RunPlan} {by : List R} → List (List ℕ) → List (RunOf offers plan by) → List (List ℕ)
images_left images [] = images
images_left images (Opened run ∷ runs) = images_left run.images runs
images_left images (Unopened run ∷ runs) = images_left run.images runs

abbrev pub bytes_left : {R : Type 0} {offers : R → ℕ → Record → List Offer → Type 0}
    {plan : RunPlan} {by : List R} → (ℕ → List ℕ) → List (RunOf offers plan by) → ℕ → List ℕ
bytes_left bytes [] = bytes
bytes_left bytes (Opened run ∷ runs) = bytes_left run.bytes runs
bytes_left bytes (Unopened run ∷ runs) = bytes_left bytes runs

-- what they left is covered by what they took and the records that came in, where these lists stand in it
pub record PlanRunsLeave {R : Type 0} {offers : R → ℕ → Record → List Offer → Type 0}
    {plan : RunPlan} {by : List R} (bytes : ℕ → List ℕ) (before : List (List ℕ))
    (runs : List (RunOf offers plan by)) (lists : List (List BufferedEntry)) : Type 0 where
  pub stopped : List Stopped
  pub stops : AreStopsOf (opened_among runs) stopped
  pub covered : Covered plan.setup (offers_in offers by)
      (files_of plan.inlets.items (bytes_left bytes runs)) (all_taken plan.setup stopped)
      (all_passes stopped) (λ _. 0) (held_by plan.setup (images_left before runs) lists)

-- Each run, also the last, was stopped at any moment, from new stores on.
abbrev pub PlanRunsStayCovered : {R I O : Type 0} → (I → InletState) → (O → OutletState)
    → (R → ℕ → Record → List Offer → Type 0) → (R → ℕ) → (R → ℕ) → Type 0
PlanRunsStayCovered {R} {I} {O} feed drain offers inlets dests =
    (plan : RunPlan) (by : List R) (bytes : ℕ → List ℕ) (runs : List (RunOf offers plan by))
    (lists : List (List BufferedEntry)) → IsRunnable plan → AreOfFiles plan → AreFilesByLines plan
    → PlanRunsFollow feed drain offers inlets dests plan by bytes (new_stores plan) runs
    → AreListsBy plan.setup.dests (images_left (new_stores plan) runs) lists
    → PlanRunsLeave bytes (new_stores plan) runs lists

-- Runs that each ended clean.

-- the device cuts lines where they are that long
abbrev pub HasLimit : InletSpec → ℕ → Type 0
HasLimit (File path once limit) most = limit ≡ most
HasLimit (Slot ip port slot once) most = Unit {0}

-- that of each file does so where its framing does
abbrev pub HaveLimits : RunPlan → Type 0
HaveLimits plan = (i : ℕ) (inlet : InletPlan) → IsFile plan.setup i
    → slice_get plan.inlets.items i ≡ Some inlet → HasLimit inlet.spec inlet.limit

abbrev pub AllEndWell : {R : Type 0} {offers : R → ℕ → Record → List Offer → Type 0}
    {plan : RunPlan} {by : List R} → List (PlanRun offers plan by) → Type 0
AllEndWell [] = Unit {0}
AllEndWell (run ∷ runs) = EndsWell run × AllEndWell runs

-- Of each file's items, all that the last run's has, each came in once, and of their offers each destination took each once.
pub record PlanRunsOnce {R : Type 0} {offers : R → ℕ → Record → List Offer → Type 0}
    {plan : RunPlan} {by : List R} (runs : List (PlanRun offers plan by))
    (last : PlanRun offers plan by) : Type 0 where
  pub stopped : List Stopped
  pub stops : AreStopsOf (runs ++ last ∷ []) stopped
  pub once : ExactlyOnce plan.setup (offers_in offers by) stopped
      (files_of plan.inlets.items last.bytes)

-- so it is where each run ended well, from new stores on
abbrev pub PlanRunsTakeOnce : {R I O : Type 0} → (I → InletState) → (O → OutletState)
    → (R → ℕ → Record → List Offer → Type 0) → (R → ℕ) → (R → ℕ) → Type 0
PlanRunsTakeOnce {R} {I} {O} feed drain offers inlets dests =
    (plan : RunPlan) (by : List R) (bytes : ℕ → List ℕ) (runs : List (PlanRun offers plan by))
    (last : PlanRun offers plan by) → IsRunnable plan → AreOfFiles plan → AreFilesByLines plan
    → HaveLimits plan → PlanRunsFollow feed drain offers inlets dests plan by bytes
    (new_stores plan) (map Opened (runs ++ last ∷ []))
    → AllEndWell (runs ++ last ∷ []) → PlanRunsOnce runs last
