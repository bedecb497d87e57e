-- What the program answers, by what its words ask for.
use Rattle.std.specs.Prelude.{Option, Some, None}
use Rattle.sg_device.specs.Inlet.{InletState}
use Rattle.sg_device.specs.Outlet.{OutletState}
use Rattle.sg_outside.specs.World.{WorldState}
use Rattle.sg_words.specs.Words.{Asked, check, trace, run, spool, drill, help, version}
use Rattle.sg_run.specs.declared.end.End.TheVariants.{Clean}
use Rattle.sg_daemon.specs.Checking.{ChecksFile}
use Rattle.sg_daemon.specs.Drilling.{DrillsCommand}
use Rattle.sg_daemon.specs.Running.{RunsCommand}
use Rattle.sg_daemon.specs.Said.{usage_text, version_text, ConcludesCommand}
use Rattle.sg_daemon.specs.Spooled.{SpoolsFile}
use Rattle.sg_daemon.specs.Tracing.{TracesCommand}
use Rattle.sg_daemon.specs.declared.status.Status.{Status}
use Rattle.sg_daemon.specs.declared.status.Status.TheVariants.{Ended, Usage}

abbrev pub AnswersCommand : {I O : Type 0} → (I → InletState) → (O → OutletState) → WorldState
    → WorldState
    → Option Asked → Status → Type 0
AnswersCommand feed drain old new (Some (check file)) status = ChecksFile old new file status
AnswersCommand feed drain old new (Some (trace file source input)) status =
    TracesCommand old new file
    source input status
AnswersCommand feed drain old new (Some (run file once rounds)) status =
    RunsCommand feed drain old new
    file once rounds status
AnswersCommand feed drain old new (Some (spool file)) status = SpoolsFile old new file status
AnswersCommand feed drain old new (Some (drill records)) status =
    DrillsCommand old new records status
AnswersCommand feed drain old new (Some help) status =
    ConcludesCommand old new (Ended Clean) usage_text status
AnswersCommand feed drain old new (Some version) status =
    ConcludesCommand old new (Ended Clean) version_text
    status
AnswersCommand feed drain old new None status = ConcludesCommand old new Usage usage_text status
