use Rattle.std.proofs.Common.{length}
use Rattle.sg_msg.proofs.order.+order_long.Given as goal

abbrev pub decreases-order_long : goal.decreases-order_long
decreases-order_long l = length l.a.now
