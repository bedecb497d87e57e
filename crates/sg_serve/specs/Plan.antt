-- What a plan is that can be run.
use Rattle.std.specs.Prelude.{◌≡◌, ◌≤◌, ℕ, Some, List, length, slice_get}
use Rattle.sg_core.specs.Opening.{NumberStores, HaveWindows, HaveCapacities}
use Rattle.sg_serve.specs.Devices.{AreFetching}
use Rattle.sg_serve.specs.Overflows.{AreOverflowsWithin}
use Rattle.sg_run_plan.specs.declared.plan.RunPlan.{RunPlan}

-- The setup numbers its stores, and has a source for each inlet and a destination for each outlet. There are no more than 128 inlets, 64
-- outlets and 192 stores.
pub record IsRunnable (plan : RunPlan) : Type 0 where
  pub numbers : NumberStores plan.setup (length plan.stores.items)
  pub windows : HaveWindows plan.setup.sources
  pub capacities : HaveCapacities plan.setup.dests
  pub sources : length plan.setup.sources ≡ length plan.inlets.items
  pub dests : length plan.setup.dests ≡ length plan.outlets.items
  pub few_inlets : length plan.inlets.items ≤ 128
  pub few_outlets : length plan.outlets.items ≤ 64
  pub few_stores : length plan.stores.items ≤ 192
  pub fetches : AreFetching plan.inlets.items
  pub held : AreOverflowsWithin plan.outlets.items

-- there is a router for each inlet, which knows as many inlets and destinations as the plan has
pub record AllKnow {R : Type 0} (inlets dests : R → ℕ) (plan : RunPlan)
    (routers : List R) : Type 0 where
  pub all : length routers ≡ length plan.inlets.items
  pub each : (i : ℕ) (router : R) → slice_get routers i ≡ Some router
      → (inlets router ≡ length plan.inlets.items) × (dests router ≡ length plan.setup.dests)
