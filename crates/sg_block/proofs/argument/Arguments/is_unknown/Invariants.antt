use Rattle.std.proofs.Common.{◌≡◌, drop}
use Rattle.sg_block.specs.Arguments.{is_unknown}
use Rattle.sg_block.proofs.argument.Arguments.is_unknown.Given as goal

abbrev pub invariant-loop-place : goal.invariant-loop-place
invariant-loop-place l = is_unknown l.self l.given ≡ is_unknown l.self (drop l.place l.given)
