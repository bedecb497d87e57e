-- What `check FILE` answers.
use Rattle.std.specs.Prelude.{◌≡◌, ℕ, List, Some, Result, Ok, Err}
use Rattle.sg_outside.specs.World.{WorldState, Files}
use Rattle.sg_config.specs.declared.config.Config.{Config}
use Rattle.sg_loaded.specs.Compiling.{CanBeCompiled}
use Rattle.sg_loaded.specs.Loading.{Configures}
use Rattle.sg_loaded.specs.declared.loaded.Unloaded.TheVariants as unloaded
use Rattle.sg_daemon.specs.Checked.{OnlyChecks, Checks, ChecksUntroubled}
use Rattle.sg_daemon.specs.declared.unchecked.Unchecked.{Unchecked}
use Rattle.sg_daemon.specs.declared.unchecked.Unchecked.TheVariants.{Bad, Unread, SayFault, NoMemory}
use Rattle.sg_run.specs.declared.end.End.TheVariants.{Clean}
use Rattle.sg_daemon.specs.Loading.{TellsUnloaded}
use Rattle.sg_daemon.specs.declared.status.Status.{Status}
use Rattle.sg_daemon.specs.declared.status.Status.TheVariants.{Ended, SayFault as StatusUnsaid, NoMemory as StatusNoMemory}

-- the status of what the check came to, and what is said of that then
abbrev pub EndsCheck : WorldState → WorldState → Result Unit Unchecked → Status → Type 0
EndsCheck checked new (Ok done) status = (new ≡ checked) × (status ≡ Ended Clean)
EndsCheck checked new (Err (Bad fault names)) status = TellsUnloaded checked new
    (unloaded.Bad fault names) status
EndsCheck checked new (Err (Unread name)) status = TellsUnloaded checked new (unloaded.Unread name)
    status
EndsCheck checked new (Err SayFault) status = (new ≡ checked) × (status ≡ StatusUnsaid)
EndsCheck checked new (Err NoMemory) status = (new ≡ checked) × (status ≡ StatusNoMemory)

abbrev pub IsComplete : Status → Type 0
IsComplete (Ended Clean) = Unit {0}
IsComplete StatusNoMemory = Unit {0}
IsComplete status = ⊥

-- FILE is a configuration, which was said; or it was said what is wrong with it. Where no trouble comes and memory is there, a configuration is found to be one.
pub record ChecksBy (old checked new : WorldState) (file : List ℕ) (result : Result Unit Unchecked)
    (status : Status) : Type 0 where
  pub checks : Checks old checked file result
  pub only : OnlyChecks old checked
  pub ends : EndsCheck checked new result status
  pub complete : (files : Files) (config : Config) → old.files ≡ Some files
      → Configures old file config → CanBeCompiled config → ChecksUntroubled old new
      → IsComplete status

abbrev pub ChecksFile : WorldState → WorldState → List ℕ → Status → Type 0
ChecksFile old new file status = (checked : WorldState)
    × ((result : Result Unit Unchecked) × ChecksBy old checked new file result status)
