use Rattle.std.proofs.Common.{◌≡◌, ◌+◌, ◌^◌, ◌≤◌, drop}
use Rattle.sg_block.specs.Tokens.{size_of}
use Rattle.sg_expand.proofs.uses.with_sizes.Given as goal

abbrev pub invariant-loop-place : goal.invariant-loop-place
invariant-loop-place l = record {
  value : l.size + size_of l.tokens ≡ l.whole + size_of (drop l.place l.tokens);
  bound : l.whole ≤ 1048576 + 2 ^ 63;
}
