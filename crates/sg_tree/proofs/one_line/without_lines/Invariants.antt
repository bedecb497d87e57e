use Rattle.std.proofs.Common.{◌≡◌, take}
use Rattle.sg_tree.specs.Readings.{without_lines}
use Rattle.sg_tree.proofs.one_line.without_lines.Given as goal

abbrev pub invariant-loop-byte : goal.invariant-loop-byte
invariant-loop-byte l = l.line.items ≡ without_lines (take l.byte-index l.text)
