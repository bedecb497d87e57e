-- What the runs of a configuration come to, one after another, each of which was stopped at any
-- moment, once its core was open or before that.
use Rattle.std.specs.Prelude.{◌≡◌, ◌⊎◌, ℕ, Bool, false, Some, List, [], ◌∷◌, ◌++◌, map, Result, Ok, Err}
use Rattle.sg_device.specs.Inlet.{InletState}
use Rattle.sg_device.specs.Outlet.{OutletState}
use Rattle.sg_outside.specs.World.{WorldState}
use Rattle.sg_lex.specs.declared.token.Token.{Token}
use Rattle.sg_machine.specs.declared.event.Event.{Event}
use Rattle.sg_machine.specs.Runs.{BufferedEntry}
use Rattle.sg_pipes.specs.declared.pipes.Pipes.{Pipes}
use Rattle.sg_config.specs.Means.{Means}
use Rattle.sg_config.specs.declared.config.Config.{Config}
use Rattle.sg_loaded.specs.declared.loaded.Unloaded.{Unloaded}
use Rattle.sg_serve.specs.Run.{CoreRun}
use Rattle.sg_laws.specs.Covered.{Pass, Delivery, Covered}
use Rattle.sg_laws.specs.Adding.{offers_in, position_in}
use Rattle.sg_laws.specs.Happened.{AreListsBy, held_by, TellFiles, files_of}
use Rattle.sg_laws.specs.PlanRuns.{StopsWithin, StopsThen, PlanRun, TellThese, UnopenedRun, StopsUnopened, RunOf, Lengthen, PlanRunsSum}
use Rattle.sg_laws.specs.PlanRuns.{Opened as PlanOpened, Unopened as PlanUnopened}
use Rattle.sg_run.specs.Meaning.{planned, AreRouters}
use Rattle.sg_run.specs.Run.{offers_by, RunsBy}
use Rattle.sg_run.specs.declared.end.End.TheVariants.{Clean}
use Rattle.sg_run.specs.declared.end.Outcome.{Outcome}

-- A run of the configuration whose core was opened: the bytes of its files, behind which events it was stopped with which one on, and what that left
-- in its stores.
pub record ConfigRun {I O : Type 0} (feed : I → InletState) (drain : O → OutletState)
    (config : Config) : Type 0 where
  pub once : Bool
  pub old : WorldState
  pub new : WorldState
  pub rounds : ℕ
  pub result : Result Outcome Unloaded
  pub ran : RunsBy feed drain old new config once rounds result
  pub core : CoreRun
  pub core_is : (ran.reached).core ≡ Some core
  pub bytes : ℕ → List ℕ
  pub events : List Event
  pub event : Event
  pub images : List (List ℕ)

-- as a run of its plan
abbrev pub plan_run : {I O : Type 0} {feed : I → InletState} {drain : O → OutletState}
    {config : Config} → (by : List Pipes) → AreRouters config by → ConfigRun feed drain config
    → PlanRun offers_by (planned config false) by
plan_run by are run = record {
  once = run.once;
  old = run.old;
  new = run.new;
  routers = (run.ran).routers;
  rounds = run.rounds;
  ending = (run.ran).ending;
  reached = (run.ran).reached;
  run = run.core;
  happened = ((run.ran).covers by are).happened run.core run.core_is;
  bytes = run.bytes;
  events = run.events;
  event = run.event;
  images = run.images;
}

-- its stores held this, the machine told its files, and so it was stopped
pub record IsConfigRun {I O : Type 0} {feed : I → InletState} {drain : O → OutletState}
    {config : Config} (by : List Pipes) (are : AreRouters config by) (before : List (List ℕ))
    (run : ConfigRun feed drain config) : Type 0 where
  pub stores : TellThese ((run.ran).reached).stores before
  pub files : TellFiles (run.old).files (planned config run.once) ((run.ran).reached).inlets
      run.bytes
  pub stops : StopsWithin (plan_run by are run).happened run.events run.event run.images
      ⊎ StopsThen (plan_run by are run).happened run.events run.event run.images

-- a run of the configuration that was stopped before its core was open, and what that left in its
-- stores
pub record UnopenedConfigRun {I O : Type 0} (feed : I → InletState) (drain : O → OutletState)
    (config : Config) : Type 0 where
  pub once : Bool
  pub old : WorldState
  pub new : WorldState
  pub rounds : ℕ
  pub result : Result Outcome Unloaded
  pub ran : RunsBy feed drain old new config once rounds result
  pub images : List (List ℕ)

abbrev pub unopened_plan_run : {I O : Type 0} {feed : I → InletState} {drain : O → OutletState}
    {config : Config} → UnopenedConfigRun feed drain config → UnopenedRun Pipes
unopened_plan_run run = record {
  once = run.once;
  old = run.old;
  new = run.new;
  routers = (run.ran).routers;
  rounds = run.rounds;
  ending = (run.ran).ending;
  reached = (run.ran).reached;
  images = run.images;
}

-- a run, stopped once its core was open, or before that
pub data ConfigRunOf {I O : Type 0} (feed : I → InletState) (drain : O → OutletState)
    (config : Config) : Type 0 where
  Opened : ConfigRun feed drain config → ConfigRunOf feed drain config
  Unopened : UnopenedConfigRun feed drain config → ConfigRunOf feed drain config

abbrev pub run_of : {I O : Type 0} {feed : I → InletState} {drain : O → OutletState}
    {config : Config} → (by : List Pipes) → AreRouters config by → ConfigRunOf feed drain config
    → RunOf offers_by (planned config false) by
run_of by are (Opened run) = PlanOpened (plan_run by are run)
run_of by are (Unopened run) = PlanUnopened (unopened_plan_run run)

-- Each begins with what the one before it left in its stores, over files that have only grown; one
-- that was stopped before its core was open has read none of them.
abbrev pub ConfigRunsFollow : {I O : Type 0} {feed : I → InletState} {drain : O → OutletState}
    {config : Config} → (by : List Pipes) → AreRouters config by → (ℕ → List ℕ) → List (List ℕ)
    → List (ConfigRunOf feed drain config) → Type 0
ConfigRunsFollow by are bytes before [] = Unit {0}
ConfigRunsFollow by are bytes before (Opened run ∷ runs) =
    Lengthen bytes run.bytes × IsConfigRun by are before run
    × ConfigRunsFollow by are run.bytes run.images runs
ConfigRunsFollow by are bytes before (Unopened run ∷ runs) =
    StopsUnopened (run.ran).reached before run.images
    × ConfigRunsFollow by are bytes run.images runs

abbrev pub IsClean : Result Outcome Unloaded → Type 0
IsClean (Ok outcome) = outcome.end ≡ Clean
IsClean (Err unloaded) = ⊥

-- What the stores held was covered by given passes and what was taken, and the last run ended with status 0 and returned. Then each record of each
-- file has a pass of which each offer with flow-control was taken at least once, and nothing else was taken than offers.
abbrev pub ConfigRunsAddUp : {I O : Type 0} → (I → InletState) → (O → OutletState) → Type 0
ConfigRunsAddUp feed drain =
    (tokens : List Token) (config : Config) (by : List Pipes) (are : AreRouters config by)
    (bytes : ℕ → List ℕ) (taken : List Delivery) (passes : List Pass) (before : List (List ℕ))
    (runs : List (ConfigRunOf feed drain config)) (last : ConfigRun feed drain config)
    → Means tokens config
    → ((lists : List (List BufferedEntry)) → AreListsBy config.setup.dests before lists
    → Covered config.setup (offers_in offers_by by) (files_of config.inlets.items bytes) taken
    passes (position_in (held_by config.setup before lists))
    (held_by config.setup before lists))
    → ConfigRunsFollow by are bytes before (runs ++ Opened last ∷ [])
    → IsClean last.result
    → StopsThen (plan_run by are last).happened last.events last.event last.images
    → PlanRunsSum taken passes before (map (run_of by are) runs) (plan_run by are last)
