use Rattle.std.proofs.Common.{length}
use Rattle.sg_msg.proofs.same.+is_same_short.Given as goal

abbrev pub decreases-is_same_short : goal.decreases-is_same_short
decreases-is_same_short l = length l.a.now
