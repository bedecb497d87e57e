use Rattle.std.proofs.Common.{◌≤◌}
use Rattle.sg_frame.specs.Items.{Count}
use Rattle.sg_frame.specs.Scans.{ReachesForm}
use Rattle.sg_frame.specs.declared.kind.FrameKind.TheVariants.{Counted}
use Rattle.sg_frame.proofs.scan.read_count.Given as goal

abbrev pub invariant-loop-i : goal.invariant-loop-i
invariant-loop-i l = (l.value ≤ l.limit) × ReachesForm Counted l.limit l.bytes l.i (Count l.value)
