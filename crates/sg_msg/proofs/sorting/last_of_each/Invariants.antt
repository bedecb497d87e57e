use Rattle.std.proofs.Common.{◌≡◌, [], take}
use Rattle.sg_msg.specs.Sorting.{put_each}
use Rattle.sg_msg.specs.Parts.{pairs_of, AreInTexts}
use Rattle.sg_msg.proofs.sorting.last_of_each.Given as goal

-- the pairs so far are put, and they stand in the texts
abbrev pub invariant-loop-pair : goal.invariant-loop-pair
invariant-loop-pair l =
    (pairs_of l.texts l.kept.items ≡ put_each (pairs_of l.texts (take l.pair-index l.pairs)) [])
    × (AreInTexts l.texts l.pairs → AreInTexts l.texts l.kept.items)
