use Rattle.std.proofs.Common.{◌≡◌, ◌++◌, map, deque_len}
use Rattle.sg_trace.specs.Tracing.{target_of}
use Rattle.sg_trace.proofs.targets.targets_of.Given as goal

abbrev pub invariant-loop-outlet : goal.invariant-loop-outlet
invariant-loop-outlet l = map target_of l.fn.outlets.items ≡ l.targets.items ++ map target_of l.rest.items

abbrev pub decreases-loop-outlet : goal.decreases-loop-outlet
decreases-loop-outlet l = deque_len l.rest
