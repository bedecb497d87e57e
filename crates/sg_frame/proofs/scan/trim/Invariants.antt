use Rattle.std.proofs.Common.{◌≡◌, length}
use Rattle.sg_frame.specs.Items.{trimmed}
use Rattle.sg_frame.proofs.scan.trim.Given as goal

abbrev pub invariant-loop-text : goal.invariant-loop-text
invariant-loop-text l = trimmed l.text ≡ trimmed l.line

abbrev pub decreases-loop-text : goal.decreases-loop-text
decreases-loop-text l = length l.text
