use Rattle.std.proofs.Common.{ℕ, List, ◌++◌, take}
use Rattle.sg_block.specs.Values.{IsCapped, spaced}
use Rattle.sg_block.proofs.values.push_spaced.Given as goal

abbrev pub invariant-loop-token : goal.invariant-loop-token
invariant-loop-token l = (made : List ℕ) → IsCapped l.room made l.initial.whole.items → IsCapped l.room (made ++ spaced (take l.token-index l.tokens)) l.whole.items
