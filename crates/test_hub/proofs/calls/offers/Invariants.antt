use Rattle.std.proofs.Common.{◌≤◌, length}
use Rattle.sg_msg.specs.Offers.{AllWithin}
use Rattle.test_hub.proofs.calls.offers.Given as goal

abbrev pub invariant-loop-word : goal.invariant-loop-word
invariant-loop-word l = record {
  within : AllWithin 2 l.offers.items;
  few : length l.offers.items ≤ 1024;
}
