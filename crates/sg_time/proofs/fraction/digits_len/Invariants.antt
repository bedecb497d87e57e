use Rattle.std.proofs.Common.{ℕ, ◌<◌, slice_index}
use Rattle.sg_time.specs.Reading.{IsDigit}
use Rattle.sg_time.proofs.fraction.digits_len.Given as goal

abbrev pub invariant-loop-index : goal.invariant-loop-index
invariant-loop-index l = (k : ℕ) → k < l.index → IsDigit (slice_index l.text k)
