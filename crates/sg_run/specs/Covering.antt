-- What a run leaves in its stores, over what it found in them.
use Rattle.std.specs.Prelude.{◌≡◌, ℕ, Bool, Option, Some, None, List}
use Rattle.sg_outside.specs.World.{Files}
use Rattle.sg_config.specs.declared.config.Config.{Config}
use Rattle.sg_serve.specs.Counts.{first_fault}
use Rattle.sg_serve.specs.Run.{CoreRun, Reached}
use Rattle.sg_serve.specs.declared.ending.PlanEnded.{PlanEnded}
use Rattle.sg_serve.specs.declared.ending.PlanEnded.TheVariants.{Before, Ran}
use Rattle.sg_run_plan.specs.declared.plan.RunPlan.{RunPlan}
use Rattle.sg_turns.specs.declared.ended.Ended.TheVariants.{Quiet, RoundsSpent as Spent, NoMemory}
use Rattle.sg_msg.specs.declared.offer.Offer.{Offer}
use Rattle.sg_frame.specs.Records.{Record}
use Rattle.sg_laws.specs.Covered.{Pass, Delivery, Offers, Covered}
use Rattle.sg_laws.specs.Adding.{offers_in, EndsClean}
use Rattle.sg_laws.specs.Happened.{AllTell, AreOfFiles, TellFiles, EachChoice, files_of, Happened, LeavesCovered}
use Rattle.sg_laws.specs.Clean.{AreFilesByLines}
use Rattle.sg_run.specs.Meaning.{planned}

-- each inlet with a stored position is that of a file, and is read by lines
abbrev pub ReadsFiles : Config → Bool → Type 0
ReadsFiles config once = AreOfFiles (planned config once) × AreFilesByLines (planned config once)

-- where nothing is counted as failed behind a quiet round, each choice of what the stores hold then has no entry, and each position behind the
-- last record of its file
abbrev pub CleanSo : RunPlan → Reached → PlanEnded → (ℕ → List ℕ) → Type 0
CleanSo plan reached (Before early) bytes = Unit {0}
CleanSo plan reached (Ran Quiet None) bytes = Unit {0}
CleanSo plan reached (Ran Quiet (Some counts)) bytes =
    first_fault counts.sinks counts.stores counts.inlets ≡ None
    → EachChoice plan.setup reached.stores_closed
    (EndsClean plan.setup (files_of plan.inlets.items bytes))
CleanSo plan reached (Ran Spent counts) bytes = Unit {0}
CleanSo plan reached (Ran NoMemory counts) bytes = Unit {0}

pub record StaysCovered {offers : Offers} {files : Option Files} {plan : RunPlan}
    {reached : Reached} {run : CoreRun} (ending : PlanEnded)
    (happened : Happened offers files plan reached run) (bytes : ℕ → List ℕ) (taken : List Delivery)
    (passes : List Pass) (places : ℕ → ℕ) : Type 0 where
  pub leaves : LeavesCovered happened bytes taken passes places
  pub clean : CleanSo plan reached ending bytes

-- What is covered by these routers stays so, over stores that tell their bytes and a machine that tells its files: at the return, and, where the
-- core was opened, at every moment since then.
pub record Covers {R : Type 0} (offers : R → ℕ → Record → List Offer → Type 0)
    (files : Option Files) (plan : RunPlan) (by : List R) (reached : Reached)
    (ending : PlanEnded) : Type 0 where
  -- without a core nothing was taken, and no record came in
  pub unopened : (bytes : ℕ → List ℕ) (taken : List Delivery) (passes : List Pass) (places : ℕ → ℕ)
      → reached.core ≡ None
      → EachChoice plan.setup reached.stores (Covered plan.setup (offers_in offers by)
      (files_of plan.inlets.items bytes) taken passes places)
      → EachChoice plan.setup reached.stores_closed (Covered plan.setup (offers_in offers by)
      (files_of plan.inlets.items bytes) taken passes places)
  pub happened : (run : CoreRun) → reached.core ≡ Some run
      → Happened (offers_in offers by) files plan reached run
  pub opened :
      (run : CoreRun) (had : Happened (offers_in offers by) files plan reached run)
      (bytes : ℕ → List ℕ) (taken : List Delivery) (passes : List Pass) (places : ℕ → ℕ)
      → reached.core ≡ Some run → AllTell reached.stores
      → TellFiles files plan reached.inlets bytes
      → EachChoice plan.setup reached.stores (Covered plan.setup (offers_in offers by)
      (files_of plan.inlets.items bytes) taken passes places)
      → StaysCovered ending had bytes taken passes places
