use Rattle.std.proofs.Common.{◌≡◌, length}
use Rattle.test_core_runs.proofs.images.images.Given as goal

abbrev pub invariant-loop-disk : goal.invariant-loop-disk
invariant-loop-disk l = record {
  count : length l.images.items ≡ l.disk-index;
}
