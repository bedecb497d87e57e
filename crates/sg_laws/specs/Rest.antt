-- Where a plan's run opened no core, what its stores hold is covered as it was.
use Rattle.std.specs.Prelude.{◌≡◌, ℕ, None, List}
use Rattle.sg_device.specs.Inlet.{InletState}
use Rattle.sg_device.specs.Outlet.{OutletState}
use Rattle.sg_outside.specs.World.{WorldState}
use Rattle.sg_msg.specs.declared.offer.Offer.{Offer}
use Rattle.sg_frame.specs.Records.{Record}
use Rattle.sg_serve.specs.Plan.{IsRunnable}
use Rattle.sg_serve.specs.Run.{Reached, RunsWith}
use Rattle.sg_serve.specs.declared.ending.PlanEnded.{PlanEnded}
use Rattle.sg_run_plan.specs.declared.plan.RunPlan.{RunPlan}
use Rattle.sg_laws.specs.Covered.{Pass, Delivery, Covered}
use Rattle.sg_laws.specs.Adding.{offers_in}
use Rattle.sg_laws.specs.Happened.{EachChoice, files_of}

-- Nothing was taken and no record came in.
abbrev pub PlanRunsRest : {R I O : Type 0} → (I → InletState) → (O → OutletState)
    → (R → ℕ → Record → List Offer → Type 0) → (R → ℕ) → (R → ℕ) → Type 0
PlanRunsRest {R} {I} {O} feed drain offers inlets dests =
    (old new : WorldState) (plan : RunPlan) (routers by : List R) (rounds : ℕ) (ending : PlanEnded)
    (reached : Reached) (bytes : ℕ → List ℕ) (taken : List Delivery) (passes : List Pass)
    (places : ℕ → ℕ) → IsRunnable plan
    → RunsWith feed drain offers inlets dests old new plan routers rounds ending reached
    → reached.core ≡ None
    → EachChoice plan.setup reached.stores (Covered plan.setup (offers_in offers by)
    (files_of plan.inlets.items bytes) taken passes places)
    → EachChoice plan.setup reached.stores_closed (Covered plan.setup (offers_in offers by)
    (files_of plan.inlets.items bytes) taken passes places)
