use Rattle.std.proofs.Common.{deque_len}
use Rattle.test_flow.proofs.outcome.taken.Given as goal

abbrev pub decreases-loop-dest : goal.decreases-loop-dest
decreases-loop-dest l = deque_len l.rest
