use Rattle.std.proofs.Common.{length}
use Rattle.sg_r5424.proofs.take.+begins.Given as goal

abbrev pub decreases-begins : goal.decreases-begins
decreases-begins l = length l.text.now
