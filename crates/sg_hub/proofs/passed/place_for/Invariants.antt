use Rattle.std.proofs.Common.{◌≡◌, ◌≤◌, ℕ, length}
use Rattle.sg_hub.specs.Counts.{offered_to}
use Rattle.sg_hub.proofs.passed.place_for.Given as goal

abbrev pub invariant-loop-more : goal.invariant-loop-more
invariant-loop-more l = record {
  at : length l.offered.items ≡ l._more;
  longer : length l.fn.offered.items ≤ length l.offered.items;
  same : (d : ℕ) → offered_to d l.offered.items ≡ offered_to d l.fn.offered.items;
}
