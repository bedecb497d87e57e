-- What the end of a run means, by the laws of the runs of plans.
use Rattle.std.proofs.Common.{ℕ, List, Some, None}
use Rattle.sg_device.specs.Inlet.{InletState}
use Rattle.sg_device.specs.Outlet.{OutletState}
use Rattle.sg_outside.specs.World.{WorldState}
use Rattle.sg_msg.specs.declared.offer.Offer.{Offer}
use Rattle.sg_frame.specs.Records.{Record}
use Rattle.sg_serve.specs.Plan.{IsRunnable}
use Rattle.sg_serve.specs.Run.{Reached, RunsWith}
use Rattle.sg_serve.specs.declared.ending.PlanEnded.{PlanEnded}
use Rattle.sg_serve.specs.declared.ending.PlanEnded.TheVariants.{Before, Ran}
use Rattle.sg_run_plan.specs.declared.plan.RunPlan.{RunPlan}
use Rattle.sg_turns.specs.declared.ended.Ended.TheVariants.{Quiet, RoundsSpent as Spent, NoMemory}
use Rattle.sg_laws.specs.Resting.{QuietRunsRest}
use Rattle.sg_laws.specs.Ending.{CleanRunsEnd}
use Rattle.sg_run.specs.Resting.{RestsSo}

module _ {R I O : Type 0} (feed : I → InletState) (drain : O → OutletState) (offers : R → ℕ → Record → List Offer → Type 0) (inlets dests : R → ℕ) (old new : WorldState) (plan : RunPlan) (routers : List R) (rounds : ℕ) (reached : Reached)
    (runnable : IsRunnable plan) (quiet : QuietRunsRest feed drain offers inlets dests) (clean : CleanRunsEnd feed drain offers inlets dests) where
  pub rests-by : (ending : PlanEnded) → RunsWith feed drain offers inlets dests old new plan routers rounds ending reached → RestsSo offers plan routers reached ending
  rests-by (Before early) runs = tt
  rests-by (Ran Quiet None) runs = λ run is. record { rests = quiet old new plan routers rounds None reached run runnable is runs; clean = tt }
  rests-by (Ran Quiet (Some counts)) runs = λ run is. record {
    rests = quiet old new plan routers rounds (Some counts) reached run runnable is runs;
    clean = λ none. clean old new plan routers rounds counts reached run runnable is none runs;
  }
  rests-by (Ran Spent counts) runs = tt
  rests-by (Ran NoMemory counts) runs = tt
