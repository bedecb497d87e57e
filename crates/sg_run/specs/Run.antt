-- What `run FILE` does.
use Rattle.std.specs.Prelude.{◌≡◌, ◌⊎◌, ℕ, Bool, List, length, Result, Ok, Err}
use Rattle.sg_device.specs.Inlet.{InletState}
use Rattle.sg_device.specs.Outlet.{OutletState}
use Rattle.sg_outside.specs.World.{WorldState}
use Rattle.sg_msg.specs.declared.offer.Offer.{Offer}
use Rattle.sg_frame.specs.Records.{Record}
use Rattle.sg_tree.specs.Offers.{AreOffers}
use Rattle.sg_pipes.specs.declared.pipes.Pipes.{Pipes}
use Rattle.sg_config.specs.declared.config.Config.{Config}
use Rattle.sg_loaded.specs.Loading.{OnlyLoads, LoadsFile, IsConfigured}
use Rattle.sg_loaded.specs.declared.loaded.Loaded.{Loaded}
use Rattle.sg_loaded.specs.declared.loaded.Unloaded.{Unloaded}
use Rattle.sg_loaded.specs.declared.loaded.Unloaded.TheVariants.{Bad, Unread, NoMemory}
use Rattle.sg_serve.specs.Run.{Reached, RunsWith}
use Rattle.sg_serve.specs.declared.ending.PlanEnded.{PlanEnded}
use Rattle.sg_laws.specs.Headline.{Delivers}
use Rattle.sg_laws.specs.Bounds.{recovered_by, offered_by, IsFew}
use Rattle.sg_run.specs.Bounding.{Completes}
use Rattle.sg_run.specs.Causes.{AreCausesDue}
use Rattle.sg_run.specs.Covering.{Covers}
use Rattle.sg_run.specs.Meaning.{planned, paths_of, paths_in, AreRouters}
use Rattle.sg_run.specs.Outcomes.{TellsOutcome}
use Rattle.sg_run.specs.Resting.{RestsSo}
use Rattle.sg_run.specs.declared.end.Outcome.{Outcome}

-- a router gives the offers of the log paths that it goes by
abbrev pub offers_by : Pipes → ℕ → Record → List Offer → Type 0
offers_by pipes i of_record offers = AreOffers (paths_of pipes) i of_record offers

abbrev pub inlets_by : Pipes → ℕ
inlets_by pipes = length pipes.table.inlets.items

abbrev pub dests_by : Pipes → ℕ
dests_by pipes = length pipes.table.dests.items

-- A configuration was run, from one state of the machine to another: its devices were opened, the rounds run over them, so many at most,
-- and the devices closed.
pub record RunsBy {I O : Type 0} (feed : I → InletState) (drain : O → OutletState)
    (loaded new : WorldState) (config : Config) (once : Bool) (rounds : ℕ)
    (result : Result Outcome Unloaded) : Type 0 where
  pub routers : List Pipes
  pub are_routers : AreRouters config routers
  pub ending : PlanEnded
  pub reached : Reached
  pub runs : RunsWith feed drain offers_by inlets_by dests_by loaded new (planned config once)
      routers rounds ending reached
  -- each destination takes from each source what the log paths of the configuration give for its records
  pub headline : Delivers AreOffers (planned config once) (paths_in config) reached reached.core
  pub tells : TellsOutcome (planned config once) ending result
  -- what is told to have failed has failed
  pub due : AreCausesDue (planned config once) reached ending
  -- behind a quiet round nothing is left to do
  pub rests : RestsSo offers_by (planned config once) routers reached ending
  -- where all rounds were run and the last one wasn't quiet, as `runs` says of such an end, what came in and failed pays for so many
  pub few : IsFew (recovered_by runs) (offered_by runs) rounds reached ending
  -- a run in which all goes well, with rounds enough, ends clean
  pub completes : Completes loaded new (planned config once) (recovered_by runs) (offered_by runs)
      rounds reached result
  -- no record of a file is lost between the stores as they were found and as they are left, by any routers of the configuration
  pub covers : (by : List Pipes) → AreRouters config by
      → Covers offers_by loaded.files (planned config once) by reached ending

-- why it wasn't run; lack of memory is free
abbrev pub IsNotRun : WorldState → WorldState → List ℕ → Result Outcome Unloaded → Type 0
IsNotRun old loaded file (Ok outcome) = ⊥
IsNotRun old loaded file (Err unloaded) = LoadsFile old loaded file (Err unloaded)

abbrev pub IsStarved : Result Outcome Unloaded → Type 0
IsStarved (Ok outcome) = ⊥
IsStarved (Err (Bad fault names)) = ⊥
IsStarved (Err (Unread name)) = ⊥
IsStarved (Err NoMemory) = Unit {0}

-- a configuration was run, or memory ran out before that
abbrev pub RunsConfig : {I O : Type 0} → (I → InletState) → (O → OutletState) → WorldState
    → WorldState → Config → Bool → ℕ → Result Outcome Unloaded → Type 0
RunsConfig feed drain loaded new config once rounds result = ((new ≡ loaded) × IsStarved result)
    ⊎ RunsBy feed drain loaded new config once rounds result

-- FILE was loaded, and its configuration run; or it isn't one, or couldn't be read, and nothing was opened
abbrev pub RunsFile : {I O : Type 0} → (I → InletState) → (O → OutletState) → WorldState
    → WorldState → List ℕ → Bool → ℕ → Result Outcome Unloaded → Type 0
RunsFile feed drain old new file once rounds result =
    (loaded : WorldState) × (OnlyLoads old loaded × (
    ((new ≡ loaded) × IsNotRun old loaded file result) ⊎ ((of_file : Loaded)
    × (IsConfigured old file of_file
    × RunsBy feed drain loaded new of_file.config once rounds result))))
