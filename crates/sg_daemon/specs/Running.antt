-- What `run FILE` answers.
use Rattle.std.specs.Prelude.{ℕ, Bool, List, Result, Ok, Err}
use Rattle.sg_device.specs.Inlet.{InletState}
use Rattle.sg_device.specs.Outlet.{OutletState}
use Rattle.sg_outside.specs.World.{WorldState}
use Rattle.sg_loaded.specs.declared.loaded.Unloaded.{Unloaded}
use Rattle.sg_run.specs.Run.{RunsFile}
use Rattle.sg_run.specs.declared.end.Outcome.{Outcome}
use Rattle.sg_daemon.specs.Loading.{TellsUnloaded}
use Rattle.sg_daemon.specs.Said.{ConcludesCommand}
use Rattle.sg_daemon.specs.declared.status.Status.{Status}
use Rattle.sg_daemon.specs.declared.status.Status.TheVariants.{Ended}

-- the status of what the run came to, and what is said of that
abbrev pub EndsRun : WorldState → WorldState → Result Outcome Unloaded → Status → Type 0
EndsRun ran new (Ok outcome) status =
    ConcludesCommand ran new (Ended outcome.end) outcome.text.items
    status
EndsRun ran new (Err unloaded) status = TellsUnloaded ran new unloaded status

-- the configuration FILE was run, and from there on text was said, and nothing else
abbrev pub RunsCommand : {I O : Type 0} → (I → InletState) → (O → OutletState) → WorldState
    → WorldState → List ℕ → Bool → ℕ → Status → Type 0
RunsCommand feed drain old new file once rounds status =
    (ran : WorldState) × ((result : Result Outcome Unloaded)
    × (RunsFile feed drain old ran file once rounds result × EndsRun ran new result status))
