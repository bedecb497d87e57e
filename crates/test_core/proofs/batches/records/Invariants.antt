use Rattle.std.proofs.Common.{◌≡◌}
use Rattle.sg_counter.specs.Bringing.{AllMayEnter}
use Rattle.test_core.proofs.batches.records.Given as goal

abbrev pub invariant-loop-part : goal.invariant-loop-part
invariant-loop-part l =
    (goal.iterator-loop-part).can_next l.part-iterator
    × (goal.iterator-loop-part).is_finite l.part-iterator
    × AllMayEnter 2 l.records.items
