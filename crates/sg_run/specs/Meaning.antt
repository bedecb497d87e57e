-- What is run of a configuration.
use Rattle.std.specs.Prelude.{◌≡◌, ℕ, Bool, List, length, map, replicate, is_some}
use Rattle.sg_machine.specs.declared.setup.SourceSetup.{SourceSetup}
use Rattle.sg_run_plan.specs.declared.inlet.InletPlan.{InletPlan}
use Rattle.sg_tree.specs.Offers.{Woods, woods_of}
use Rattle.sg_table.specs.Forest.{forest_of}
use Rattle.sg_pipes.specs.declared.pipes.Pipes.{Pipes}
use Rattle.sg_config.specs.declared.config.Config.{Config}
use Rattle.sg_run_plan.specs.declared.plan.RunPlan.{RunPlan}

-- all of it but its log paths
abbrev pub planned : Config → Bool → RunPlan
planned config once = record {
  setup = config.setup;
  inlets = config.inlets;
  outlets = config.outlets;
  stores = config.stores;
  once = once;
}

-- the log paths by which a router gives offers
abbrev pub paths_of : Pipes → Woods
paths_of pipes = forest_of pipes.table

-- for each inlet the log paths of the configuration
abbrev pub paths_in : Config → List Woods
paths_in config = replicate (length config.inlets.items) (woods_of config.forest)

-- there is a router for each inlet, and each goes by the log paths of the configuration
abbrev pub AreRouters : Config → List Pipes → Type 0
AreRouters config routers = map paths_of routers ≡ paths_in config

-- for each inlet the number of its driver, and whether it has a stored position
abbrev pub drivers_in : List InletPlan → List ℕ
drivers_in inlets = map (λ (inlet : InletPlan). inlet.driver) inlets

abbrev pub files_in : List SourceSetup → List Bool
files_in setups = map (λ (setup : SourceSetup). is_some setup.store) setups
