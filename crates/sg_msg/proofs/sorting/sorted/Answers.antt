use Rattle.std.proofs.Common.{[], List, ap, ◌∙◌}
use Rattle.sg_msg.specs.Sorting.{put_each}
use Rattle.sg_msg.specs.Parts.{pairs_of}
use Rattle.sg_msg.specs.declared.pair.Pair.{Pair}
use Rattle.sg_msg.proofs.ManyPairs.{same-all}
use Rattle.sg_msg.proofs.SortedPairs.{in_order-each}
use Rattle.sg_msg.proofs.sorting.sorted.Goals as goal

-- in order, setting one after another keeps the last of each name; and the order doesn't matter
pub returns-clause-pairs : goal.returns-clause-pairs
returns-clause-pairs c =
    c.in_ok-kept.ensures.pairs
    ∙ ap (λ (ps : List Pair). put_each (pairs_of c.args.texts.now ps) []) c.as_slice.ensures.value
    ∙ in_order-each _ c.in_ok-sort.ensures.sorted ∙ same-all _ _ c.sort.ensures.stable
