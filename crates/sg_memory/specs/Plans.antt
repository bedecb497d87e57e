-- Which calls of a machine in memory fail.
use Rattle.std.specs.Prelude.{◌≡◌, ℕ, List, [], ◌∷◌}
use Rattle.sg_memory_disk.specs.Plan.{failing, IsFaultless}
use Rattle.sg_memory_disk.specs.declared.plan.FaultPlan.{FaultPlan}
use Rattle.sg_memory.specs.declared.plans.OutletScript.{OutletScript}
use Rattle.sg_memory.specs.declared.plans.PathsPlan.{PathsPlan}
use Rattle.sg_memory.specs.declared.plans.WorldPlans.{WorldPlans}

-- no call fails, and none is too early
abbrev pub IsOutletQuiet : OutletScript → Type 0
IsOutletQuiet plan = IsFaultless plan.fails × IsFaultless plan.laters × IsFaultless plan.waits

abbrev pub IsPathsQuiet : PathsPlan → Type 0
IsPathsQuiet plan = IsOutletQuiet plan.calls × IsFaultless plan.unused

-- the same of all that will be opened
abbrev pub AreInletsQuiet : List FaultPlan → Type 0
AreInletsQuiet [] = Unit {0}
AreInletsQuiet (plan ∷ plans) = IsFaultless plan × AreInletsQuiet plans

abbrev pub AreOutletsQuiet : List OutletScript → Type 0
AreOutletsQuiet [] = Unit {0}
AreOutletsQuiet (plan ∷ plans) = IsOutletQuiet plan × AreOutletsQuiet plans

abbrev pub ArePathsQuiet : List PathsPlan → Type 0
ArePathsQuiet [] = Unit {0}
ArePathsQuiet (plan ∷ plans) = IsPathsQuiet plan × ArePathsQuiet plans

-- the calls that fail of the inlet that is opened next
abbrev pub first_failing : List FaultPlan → List ℕ
first_failing [] = []
first_failing (plan ∷ plans) = failing plan

-- this is the plan of the device that is opened next
abbrev pub IsFirstOutlet : List OutletScript → OutletScript → Type 0
IsFirstOutlet [] plan = IsOutletQuiet plan
IsFirstOutlet (first ∷ plans) plan = plan ≡ first

abbrev pub IsFirstPaths : List PathsPlan → PathsPlan → Type 0
IsFirstPaths [] plan = IsPathsQuiet plan
IsFirstPaths (first ∷ plans) plan = plan ≡ first

-- no call fails, of the machine and of the devices that it opens, and nothing is due
pub record AreQuiet (plans : WorldPlans) : Type 0 where
  pub reads : IsFaultless plans.reads
  pub inlet_opens : IsFaultless plans.inlet_opens
  pub outlet_opens : IsFaultless plans.outlet_opens
  pub paths_opens : IsFaultless plans.paths_opens
  pub says : IsFaultless plans.says
  pub builds : IsFaultless plans.builds
  pub dues : IsFaultless plans.dues
  pub inlets : AreInletsQuiet plans.inlets.items
  pub outlets : AreOutletsQuiet plans.outlets.items
  pub paths : ArePathsQuiet plans.paths.items
