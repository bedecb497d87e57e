use Rattle.std.proofs.Common.{◌≡◌, ◌++◌, length}
use Rattle.sg_block.proofs.argument.Arguments.bindings.Given as goal

abbrev pub invariant-loop-argument : goal.invariant-loop-argument
invariant-loop-argument l = l.left ++ l.others ≡ l.initial.left ++ l.initial.others

abbrev pub decreases-loop-argument : goal.decreases-loop-argument
decreases-loop-argument l = length l.others
