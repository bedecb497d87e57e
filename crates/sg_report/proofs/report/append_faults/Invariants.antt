use Rattle.std.proofs.Common.{◌≡◌, ◌++◌, drop}
use Rattle.sg_report.specs.Report.{fault_lines}
use Rattle.sg_report.proofs.report.append_faults.Given as goal

abbrev pub invariant-loop-number : goal.invariant-loop-number
invariant-loop-number l = l.text.items ++ fault_lines l.kind (drop l.number-index l.numbers) ≡ l.initial.text.items ++ fault_lines l.kind l.numbers
