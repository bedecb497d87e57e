use Rattle.std.proofs.Common.{◌≡◌, ◌++◌, drop}
use Rattle.sg_block.specs.Arguments.{defaults}
use Rattle.sg_block.proofs.argument.Arguments.defaults.Given as goal

abbrev pub invariant-loop-place : goal.invariant-loop-place
invariant-loop-place l = defaults l.self l.given ≡ l.left ++ defaults (drop l.place l.self) l.given
