use Rattle.std.proofs.Common.{◌≡◌, ℕ, ◌<◌, ◌≤◌}
use Rattle.sg_time.specs.Text.{month_name}
use Rattle.sg_time.proofs.read.month.Given as goal

abbrev pub invariant-loop-month : goal.invariant-loop-month
invariant-loop-month l = (k : ℕ) → 1 ≤ k → k < l.month → ¬ (l.name ≡ month_name k)
