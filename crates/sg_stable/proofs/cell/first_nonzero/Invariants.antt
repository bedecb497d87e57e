use Rattle.std.proofs.Common.{◌≡◌, ℕ, ◌<◌, get_or}
use Rattle.sg_stable.specs.Cell.{IsOutside}
use Rattle.sg_stable.proofs.cell.first_nonzero.Given as goal

abbrev pub invariant-loop-i : goal.invariant-loop-i
invariant-loop-i l = (k : ℕ) → k < l.i → IsOutside k → get_or l.bytes k 0 ≡ 0
