use Rattle.std.proofs.Common.{sym, subst, List}
use Rattle.sg_msg.specs.Message.{IsAscending}
use Rattle.sg_msg.specs.Parts.{pairs_of}
use Rattle.sg_msg.specs.declared.pair.Pair.{Pair}
use Rattle.sg_msg.proofs.OrderedPairs.{with-ascending}
use Rattle.sg_msg.proofs.sorting.in_order.Goals as goal

-- pairs that ascend stay as they are
pub returns-then-ascend-clause-pairs : goal.returns-then-ascend-clause-pairs
returns-then-ascend-clause-pairs c =
    let up = subst (λ (ps : List Pair). IsAscending (pairs_of c.args.texts.now ps)) c.as_slice.ensures.value (c.ascend.ensures c.if-ascend.true) in
    sym (with-ascending (pairs_of c.args.texts.now c.args.pairs.items) up)
