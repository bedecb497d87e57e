use Rattle.std.proofs.Common.{◌≡◌, ◌++◌, drop}
use Rattle.sg_report.specs.Report.{held_lines}
use Rattle.sg_report.proofs.report.append_buffers.Given as goal

abbrev pub invariant-loop-buffer : goal.invariant-loop-buffer
invariant-loop-buffer l = l.text.items ++ held_lines (drop l.buffer-index l.held) ≡ l.initial.text.items ++ held_lines l.held
