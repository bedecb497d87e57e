use Rattle.std.proofs.Common.{sym, subst, ◌∙◌, List}
use Rattle.sg_msg.specs.Message.{IsAscending}
use Rattle.sg_msg.specs.Parts.{pairs_of}
use Rattle.sg_msg.specs.declared.pair.Pair.{Pair}
use Rattle.sg_msg.proofs.OrderedPairs.{with-ascending}
use Rattle.sg_msg.proofs.sorting.few_in_order.Goals as goal

-- pairs that ascend stay as they are
pub returns-clause-pairs : goal.returns-clause-pairs
returns-clause-pairs c =
    let up = subst (λ (ps : List Pair). IsAscending (pairs_of c.args.texts.now ps)) c.as_slice.ensures.value (c.ascend.ensures c.if-not-ascend.false) in
    sym (with-ascending (pairs_of c.args.texts.now c.sink_each.new.pairs.items) up) ∙ c.sink_each.ensures.same
