use Rattle.std.proofs.Common.{◌≡◌, length}
use Rattle.test_hub.proofs.cores.disks.Given as goal

abbrev pub invariant-loop-number : goal.invariant-loop-number
invariant-loop-number l = record {
  count : length l.disks.items ≡ l._number;
}
