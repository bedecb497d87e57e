use Rattle.std.proofs.Common.{deque_len}
use Rattle.test_flow.proofs.lists.close_sources.Given as goal

abbrev pub decreases-loop-source : goal.decreases-loop-source
decreases-loop-source g l = deque_len l.rest
