use Rattle.std.proofs.Common.{◌≡◌, ◌++◌, drop}
use Rattle.sg_report.specs.Report.{dest_lines}
use Rattle.sg_report.proofs.report.append_dests.Given as goal

abbrev pub invariant-loop-d : goal.invariant-loop-d
invariant-loop-d l = l.text.items ++ dest_lines l.d (drop l.d l.dests) ≡ l.initial.text.items ++ dest_lines 0 l.dests
