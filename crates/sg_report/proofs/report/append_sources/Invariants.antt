use Rattle.std.proofs.Common.{◌≡◌, ◌++◌, drop}
use Rattle.sg_report.specs.Report.{lines, driver_lines, source_lines}
use Rattle.sg_report.proofs.report.append_sources.Given as goal

abbrev pub invariant-loop-i : goal.invariant-loop-i
invariant-loop-i l = l.text.items ++ driver_lines l.sum (drop l.i (lines l.tally l.shown)) ≡ l.initial.text.items ++ source_lines (lines l.tally l.shown)
