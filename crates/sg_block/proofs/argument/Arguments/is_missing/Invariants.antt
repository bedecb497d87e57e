use Rattle.std.proofs.Common.{◌≡◌, drop}
use Rattle.sg_block.specs.Arguments.{is_missing}
use Rattle.sg_block.proofs.argument.Arguments.is_missing.Given as goal

abbrev pub invariant-loop-place : goal.invariant-loop-place
invariant-loop-place l = is_missing l.self l.given ≡ is_missing (drop l.place l.self) l.given
