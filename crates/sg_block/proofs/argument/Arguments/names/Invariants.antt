use Rattle.std.proofs.Common.{◌≤◌, length, drop}
use Rattle.sg_block.specs.Arguments.{HasNames}
use Rattle.sg_block.proofs.argument.Arguments.names.Given as goal

abbrev pub invariant-loop-place : goal.invariant-loop-place
invariant-loop-place l = record {
  within : l.place ≤ length l.self;
  names : HasNames l.names (drop l.place l.self);
}

abbrev pub decreases-loop-place : goal.decreases-loop-place
decreases-loop-place l = l.place
