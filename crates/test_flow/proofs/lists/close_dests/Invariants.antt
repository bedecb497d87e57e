use Rattle.std.proofs.Common.{deque_len}
use Rattle.test_flow.proofs.lists.close_dests.Given as goal

abbrev pub decreases-loop-dest : goal.decreases-loop-dest
decreases-loop-dest g l = deque_len l.rest
