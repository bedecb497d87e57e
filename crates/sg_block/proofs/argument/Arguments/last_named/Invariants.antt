use Rattle.std.proofs.Common.{◌≡◌, ◌≤◌, length, take, drop}
use Rattle.sg_block.specs.Arguments.{HasNames, last_named}
use Rattle.sg_block.proofs.argument.Arguments.last_named.Given as goal

abbrev pub invariant-loop-argument : goal.invariant-loop-argument
invariant-loop-argument l = record {
  within : length l.self ≤ length l.initial.self;
  left : l.self ≡ take (length l.self) l.initial.self;
  names : HasNames l.names (drop (length l.self) l.initial.self);
  kept : l.kept ≡ last_named (drop (length l.self) l.initial.self);
}

abbrev pub decreases-loop-argument : goal.decreases-loop-argument
decreases-loop-argument l = length l.self
