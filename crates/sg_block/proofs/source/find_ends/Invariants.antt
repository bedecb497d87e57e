use Rattle.std.proofs.Common.{◌≤◌, length}
use Rattle.sg_block.specs.Brackets.{HasEndsFrom}
use Rattle.sg_block.proofs.source.find_ends.Given as goal

abbrev pub invariant-loop-place : goal.invariant-loop-place
invariant-loop-place l = record {
  within : l.place ≤ length l.tokens;
  ends : HasEndsFrom l.tokens l.ends.items l.place;
}

abbrev pub decreases-loop-place : goal.decreases-loop-place
decreases-loop-place l = l.place
