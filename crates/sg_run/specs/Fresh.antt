-- What the runs of a configuration come to from new stores on, one after another.
use Rattle.std.specs.Prelude.{ℕ, false, List, [], ◌∷◌, ◌++◌, map}
use Rattle.sg_device.specs.Inlet.{InletState}
use Rattle.sg_device.specs.Outlet.{OutletState}
use Rattle.sg_lex.specs.declared.token.Token.{Token}
use Rattle.sg_machine.specs.Runs.{BufferedEntry}
use Rattle.sg_pipes.specs.declared.pipes.Pipes.{Pipes}
use Rattle.sg_config.specs.Means.{Means}
use Rattle.sg_config.specs.declared.config.Config.{Config}
use Rattle.sg_laws.specs.Happened.{AreListsBy}
use Rattle.sg_laws.specs.PlanRuns.{StopsThen, PlanRunsSum}
use Rattle.sg_laws.specs.Fresh.{new_stores, images_left, PlanRunsLeave, PlanRunsOnce}
use Rattle.sg_run.specs.Adding.{ConfigRun, plan_run, ConfigRunOf, Opened, run_of, ConfigRunsFollow, IsClean}
use Rattle.sg_run.specs.Meaning.{planned, AreRouters}

-- the stores of a configuration as they are made
abbrev pub new_stores_of : Config → List (List ℕ)
new_stores_of config = new_stores (planned config false)

-- Each run but the last was stopped at any moment, and the last ended with status 0 and returned. Then each record of each file has a pass of
-- which each offer with flow-control was taken at least once, and nothing else was taken than offers.
abbrev pub NewConfigRunsAddUp : {I O : Type 0} → (I → InletState) → (O → OutletState) → Type 0
NewConfigRunsAddUp feed drain =
    (tokens : List Token) (config : Config) (by : List Pipes) (are : AreRouters config by)
    (bytes : ℕ → List ℕ) (runs : List (ConfigRunOf feed drain config))
    (last : ConfigRun feed drain config) → Means tokens config
    → ConfigRunsFollow by are bytes (new_stores_of config) (runs ++ Opened last ∷ [])
    → IsClean last.result
    → StopsThen (plan_run by are last).happened last.events last.event last.images
    → PlanRunsSum [] [] (new_stores_of config) (map (run_of by are) runs) (plan_run by are last)

-- Each run, also the last, was stopped at any moment. What they left in their stores is covered by what they took and the records that came in.
abbrev pub ConfigRunsStayCovered : {I O : Type 0} → (I → InletState) → (O → OutletState) → Type 0
ConfigRunsStayCovered feed drain =
    (tokens : List Token) (config : Config) (by : List Pipes) (are : AreRouters config by)
    (bytes : ℕ → List ℕ) (runs : List (ConfigRunOf feed drain config))
    (lists : List (List BufferedEntry))
    → Means tokens config
    → ConfigRunsFollow by are bytes (new_stores_of config) runs
    → AreListsBy config.setup.dests
    (images_left (new_stores_of config) (map (run_of by are) runs)) lists
    → PlanRunsLeave bytes (new_stores_of config) (map (run_of by are) runs) lists

-- The run ended with status 0 and returned.
pub record ReturnsClean {I O : Type 0} {feed : I → InletState} {drain : O → OutletState}
    {config : Config} (by : List Pipes) (are : AreRouters config by)
    (run : ConfigRun feed drain config) : Type 0 where
  pub clean : IsClean run.result
  pub returned : StopsThen (plan_run by are run).happened run.events run.event run.images

abbrev pub AllReturnClean : {I O : Type 0} {feed : I → InletState} {drain : O → OutletState}
    {config : Config} → (by : List Pipes) → AreRouters config by
    → List (ConfigRun feed drain config) → Type 0
AllReturnClean by are [] = Unit {0}
AllReturnClean by are (run ∷ runs) = ReturnsClean by are run × AllReturnClean by are runs

-- Each run did so. Then each record of each file came in once, and of its offers each destination took each once, but for those that were dropped without
-- flow-control.
abbrev pub ConfigRunsTakeOnce : {I O : Type 0} → (I → InletState) → (O → OutletState) → Type 0
ConfigRunsTakeOnce feed drain =
    (tokens : List Token) (config : Config) (by : List Pipes) (are : AreRouters config by)
    (bytes : ℕ → List ℕ) (runs : List (ConfigRun feed drain config))
    (last : ConfigRun feed drain config) → Means tokens config
    → ConfigRunsFollow by are bytes (new_stores_of config) (map Opened (runs ++ last ∷ []))
    → AllReturnClean by are (runs ++ last ∷ [])
    → PlanRunsOnce (map (plan_run by are) runs) (plan_run by are last)
