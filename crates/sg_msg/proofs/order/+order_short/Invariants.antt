use Rattle.std.proofs.Common.{length}
use Rattle.sg_msg.proofs.order.+order_short.Given as goal

abbrev pub decreases-order_short : goal.decreases-order_short
decreases-order_short l = length l.a.now
