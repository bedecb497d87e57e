use Rattle.std.proofs.Common.{◌≡◌, ◌≤◌, ◌-◌, length}
use Rattle.sg_frame.specs.Framing.{fed}
use Rattle.test_texts.proofs.frame.frame.Given as goal

abbrev pub invariant-loop-place : goal.invariant-loop-place
invariant-loop-place l = (fed l.framer ≡ l.place) × (l.place ≤ length l.stream)

abbrev pub decreases-loop-place : goal.decreases-loop-place
decreases-loop-place l = length l.stream - l.place
