-- Where a plan's run ends clean, no entry is left in its disk-buffers, and each position is behind all items of its file.
use Rattle.std.specs.Prelude.{◌≡◌, ℕ, Some, None, List, slice_get}
use Rattle.sg_device.specs.Inlet.{InletState}
use Rattle.sg_device.specs.Outlet.{OutletState}
use Rattle.sg_outside.specs.World.{WorldState}
use Rattle.sg_msg.specs.declared.offer.Offer.{Offer}
use Rattle.sg_frame.specs.Records.{Record}
use Rattle.sg_frame.specs.declared.kind.FrameKind.TheVariants.{Lines}
use Rattle.sg_run_plan.specs.declared.inlet.InletPlan.{InletPlan}
use Rattle.sg_turns.specs.declared.ended.Ended.TheVariants.{Quiet}
use Rattle.sg_serve.specs.Counts.{first_fault}
use Rattle.sg_serve.specs.Plan.{IsRunnable}
use Rattle.sg_serve.specs.Run.{CoreRun, Reached, RunsWith}
use Rattle.sg_serve.specs.declared.counts.Counts.{Counts}
use Rattle.sg_serve.specs.declared.ending.PlanEnded.TheVariants.{Ran}
use Rattle.sg_run_plan.specs.declared.plan.RunPlan.{RunPlan}
use Rattle.sg_laws.specs.Covered.{Pass, Delivery, IsFile, Covered}
use Rattle.sg_laws.specs.Adding.{offers_in, EndsClean}
use Rattle.sg_laws.specs.Happened.{EachChoice, AllTell, AreOfFiles, TellFiles, files_of}

-- each file is read by lines
abbrev pub AreFilesByLines : RunPlan → Type 0
AreFilesByLines plan = (i : ℕ) (inlet : InletPlan) → IsFile plan.setup i
    → slice_get plan.inlets.items i ≡ Some inlet → inlet.kind ≡ Lines

-- A run that ended quietly, with nothing counted as failed, over files that are read by lines, ends clean.
abbrev pub PlanRunsEndClean : {R I O : Type 0} → (I → InletState) → (O → OutletState)
    → (R → ℕ → Record → List Offer → Type 0) → (R → ℕ) → (R → ℕ) → Type 0
PlanRunsEndClean {R} {I} {O} feed drain offers inlets dests =
    (old new : WorldState) (plan : RunPlan) (routers by : List R) (rounds : ℕ) (counts : Counts)
    (reached : Reached) (run : CoreRun) (bytes : ℕ → List ℕ) (taken : List Delivery)
    (passes : List Pass) (places : ℕ → ℕ)
    → IsRunnable plan → AreOfFiles plan → AreFilesByLines plan
    → RunsWith feed drain offers inlets dests old new plan routers rounds
    (Ran Quiet (Some counts)) reached → reached.core ≡ Some run
    → first_fault counts.sinks counts.stores counts.inlets ≡ None
    → AllTell reached.stores → TellFiles old.files plan reached.inlets bytes
    → EachChoice plan.setup reached.stores
    (Covered plan.setup (offers_in offers by) (files_of plan.inlets.items bytes) taken passes
    places)
    → EachChoice plan.setup reached.stores_closed
    (EndsClean plan.setup (files_of plan.inlets.items bytes))
