use Rattle.std.proofs.Common.{◌≡◌, ◌≤◌, length}
use Rattle.sg_msg.specs.Offers.{AllWithin}
use Rattle.test_core.proofs.batches.offers.Given as goal

abbrev pub invariant-loop-word : goal.invariant-loop-word
invariant-loop-word l =
    (goal.iterator-loop-word).can_next l.word-iterator
    × (goal.iterator-loop-word).is_finite l.word-iterator
    × AllWithin 2 l.offers.items
    × (length l.offers.items ≤ 1024)
