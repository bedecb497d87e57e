use Rattle.std.proofs.Common.{length}
use Rattle.sg_msg.proofs.same.+is_same_long.Given as goal

abbrev pub decreases-is_same_long : goal.decreases-is_same_long
decreases-is_same_long l = length l.a.now
