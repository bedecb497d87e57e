use Rattle.std.proofs.Common.{◌≤◌, length}
use Rattle.sg_msg.specs.Offers.{AllWithin}
use Rattle.test_core_runs.proofs.entries.offers_of.Given as goal

abbrev pub invariant-loop-number : goal.invariant-loop-number
invariant-loop-number l = record {
  within : AllWithin 3 l.offers.items;
  few : length l.offers.items ≤ 1024;
}
