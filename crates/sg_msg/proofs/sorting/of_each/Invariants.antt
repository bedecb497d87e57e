use Rattle.std.proofs.Common.{◌≡◌, [], take}
use Rattle.sg_msg.specs.Message.{with_all}
use Rattle.sg_msg.specs.Parts.{pairs_of, AreInTexts}
use Rattle.sg_msg.proofs.sorting.of_each.Given as goal

-- the pairs so far are set, they ascend, and they stand in the texts
abbrev pub invariant-loop-pair : goal.invariant-loop-pair
invariant-loop-pair l =
    (pairs_of l.texts l.kept.items ≡ with_all (pairs_of l.texts (take l.pair-index l.pairs)) [])
    × (AreInTexts l.texts l.pairs → AreInTexts l.texts l.kept.items)
