-- What the end of a run means, by the routers that it went by.
use Rattle.std.specs.Prelude.{◌≡◌, ℕ, List, Option, Some, None, IfSome}
use Rattle.sg_msg.specs.declared.offer.Offer.{Offer}
use Rattle.sg_frame.specs.Records.{Record}
use Rattle.sg_serve.specs.Counts.{first_fault}
use Rattle.sg_serve.specs.Run.{CoreRun, Reached}
use Rattle.sg_serve.specs.declared.counts.Counts.{Counts}
use Rattle.sg_serve.specs.declared.ending.PlanEnded.{PlanEnded}
use Rattle.sg_serve.specs.declared.ending.PlanEnded.TheVariants.{Before, Ran}
use Rattle.sg_run_plan.specs.declared.plan.RunPlan.{RunPlan}
use Rattle.sg_turns.specs.declared.ended.Ended.TheVariants.{Quiet, RoundsSpent as Spent, NoMemory}
use Rattle.sg_laws.specs.Resting.{RunRests}
use Rattle.sg_laws.specs.Ending.{EndsRounds}

-- Behind a quiet round nothing is left to do; and where nothing failed either, all input was taken, and all that was kept was delivered.
pub record IsQuietRun {R : Type 0} (offers : R → ℕ → Record → List Offer → Type 0) (plan : RunPlan)
    (routers : List R) (reached : Reached) (counts : Option Counts) (run : CoreRun) : Type 0 where
  pub rests : RunRests offers plan routers reached run run.made
  pub clean : IfSome counts (λ (c : Counts). first_fault c.sinks c.stores c.inlets ≡ None
      → EndsRounds offers plan routers reached run run.made)

abbrev pub RestsSo : {R : Type 0} → (R → ℕ → Record → List Offer → Type 0) → RunPlan → List R
    → Reached → PlanEnded → Type 0
RestsSo offers plan routers reached (Before early) = Unit {0}
RestsSo offers plan routers reached (Ran Quiet counts) = (run : CoreRun) → reached.core ≡ Some run
    → IsQuietRun offers plan routers reached counts run
RestsSo offers plan routers reached (Ran Spent counts) = Unit {0}
RestsSo offers plan routers reached (Ran NoMemory counts) = Unit {0}
