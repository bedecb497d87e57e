-- What `trace FILE SOURCE INPUT` answers.
use Rattle.std.specs.Prelude.{◌≡◌, ℕ, List, Some, Result, Ok, Err}
use Rattle.sg_outside.specs.World.{WorldState, Files}
use Rattle.sg_config.specs.declared.config.Config.{Config}
use Rattle.sg_loaded.specs.Compiling.{CanBeCompiled}
use Rattle.sg_loaded.specs.Loading.{Configures}
use Rattle.sg_serve.specs.declared.ending.Device.TheVariants.{Inlet}
use Rattle.sg_trace.specs.declared.untraced.Untraced.{Untraced}
use Rattle.sg_trace.specs.declared.untraced.Untraced.TheVariants.{NotOpened, InletFault, RoundsSpent, SayFault, NoMemory}
use Rattle.sg_trace.specs.Tracing.{first_of, TracesFile}
use Rattle.sg_trace.specs.Completeness.{ShowsUntroubled}
use Rattle.sg_trace.specs.declared.unshown.Unshown.{Unshown}
use Rattle.sg_trace.specs.declared.unshown.Unshown.TheVariants as unshown
use Rattle.sg_run.specs.declared.end.End.TheVariants as end
use Rattle.sg_daemon.specs.Loading.{TellsUnloaded}
use Rattle.sg_daemon.specs.declared.status.Status.{Status}
use Rattle.sg_daemon.specs.declared.status.Status.TheVariants.{Ended, SayFault as StatusUnsaid, NoMemory as StatusNoMemory}

-- the one inlet has the number 0
abbrev pub status_untraced : Untraced → Status
status_untraced NotOpened = Ended (end.OpenFault (Inlet 0))
status_untraced InletFault = Ended (end.InletFault 0)
status_untraced RoundsSpent = Ended end.RoundsSpent
status_untraced SayFault = StatusUnsaid
status_untraced NoMemory = StatusNoMemory

-- the status of what the trace came to, and what is said of that then
abbrev pub EndsTrace : WorldState → WorldState → Result Unit Unshown → Status → Type 0
EndsTrace shown new (Ok done) status = (new ≡ shown) × (status ≡ Ended end.Clean)
EndsTrace shown new (Err (unshown.Untraced untraced)) status = (new ≡ shown)
    × (status ≡ status_untraced untraced)
EndsTrace shown new (Err (unshown.Unloaded unloaded)) status = TellsUnloaded shown new unloaded
    status

abbrev pub IsComplete : Status → Type 0
IsComplete (Ended end.Clean) = Unit {0}
IsComplete StatusNoMemory = Unit {0}
IsComplete status = ⊥

-- INPUT was traced as SOURCE's first inlet would take it, through the log paths of FILE, or it was said what is wrong with that. Where no trouble comes and memory is
-- there, a configuration that has the source traces INPUT to its end.
pub record TracesToStatus (old shown new : WorldState) (file source input : List ℕ)
    (result : Result Unit Unshown) (status : Status) : Type 0 where
  pub traces : TracesFile old shown file source input result
  pub ends : EndsTrace shown new result status
  pub complete : (files : Files) (config : Config) (i : ℕ) → old.files ≡ Some files
      → Configures old file config → CanBeCompiled config
      → first_of 0 source config.inlets.items ≡ Some i → ShowsUntroubled old new input
      → IsComplete status

abbrev pub TracesCommand : WorldState → WorldState → List ℕ → List ℕ → List ℕ → Status → Type 0
TracesCommand old new file source input status = (shown : WorldState)
    × ((result : Result Unit Unshown)
    × TracesToStatus old shown new file source input result status)
