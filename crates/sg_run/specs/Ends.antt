-- How a run ended, by what its plan's run came to. Before the rounds the first step that refuses tells; after a quiet round the lowest
-- exit status of what failed does, with the lowest number.
use Rattle.std.specs.Prelude.{ℕ, List, [], Option, Some, None, codes}
use Rattle.sg_report.specs.Store.{unopened_line, damaged_line, failed_line}
use Rattle.sg_serve.specs.declared.counts.Fault.{Fault}
use Rattle.sg_serve.specs.declared.counts.Fault.TheVariants.{Sink, Disk, Inlet as InletFailed}
use Rattle.sg_serve.specs.declared.ending.Device.TheVariants.{Store, Inlet, Dest}
use Rattle.sg_serve.specs.declared.ending.Early.{Early}
use Rattle.sg_serve.specs.declared.ending.Early.TheVariants as early
use Rattle.sg_turns.specs.declared.ended.Ended.{Ended}
use Rattle.sg_turns.specs.declared.ended.Ended.TheVariants.{Quiet, RoundsSpent as Spent, NoMemory}
use Rattle.sg_run.specs.declared.end.End.{End}
use Rattle.sg_run.specs.declared.end.End.TheVariants.{Clean, OpenFault, Damage, SinkFault, DiskFault, InletFault, RoundsSpent}

-- the exit status
abbrev pub code_of : End → ℕ
code_of Clean = 0
code_of (OpenFault device) = 4
code_of (Damage s at) = 5
code_of (SinkFault d) = 6
code_of (DiskFault s) = 7
code_of (InletFault i) = 8
code_of RoundsSpent = 9

abbrev pub quiet_end : Option Fault → End
quiet_end None = Clean
quiet_end (Some (Sink d)) = SinkFault d
quiet_end (Some (Disk s)) = DiskFault s
quiet_end (Some (InletFailed i)) = InletFault i

-- of a run whose rounds ended so, and in which this failed first; none where memory ran out
abbrev pub end_after : Ended → Option Fault → Option End
end_after Quiet fault = Some (quiet_end fault)
end_after Spent fault = Some RoundsSpent
end_after NoMemory fault = None

-- of a run whose rounds didn't begin
abbrev pub early_end : Early → Option End
early_end (early.OpenFault device) = Some (OpenFault device)
early_end (early.Damage s at) = Some (Damage s at)
early_end (early.DiskFault s) = Some (DiskFault s)
early_end early.NoMemory = None

-- the line on what kept the rounds from beginning
abbrev pub early_text : Early → List ℕ
early_text (early.OpenFault (Store n)) = unopened_line (codes "store") n
early_text (early.OpenFault (Inlet n)) = unopened_line (codes "inlet") n
early_text (early.OpenFault (Dest n)) = unopened_line (codes "destination") n
early_text (early.Damage s at) = damaged_line s at
early_text (early.DiskFault s) = failed_line s
early_text early.NoMemory = []
