use Rattle.std.proofs.Common.{◌≡◌, length}
use Rattle.sg_frame.specs.Framing.{fed}
use Rattle.test_texts.proofs.frame.drain.Given as goal

abbrev pub invariant-loop-bytes : goal.invariant-loop-bytes
invariant-loop-bytes l = fed l.framer ≡ fed l.initial.framer

abbrev pub decreases-loop-bytes : goal.decreases-loop-bytes
decreases-loop-bytes l = length l.framer.held
