use Rattle.std.proofs.Common.{arith, ◌++◌, List, ℕ, map, take, ap, ◌∙◌}
use Rattle.sg_msg.specs.declared.offer.Offer.{Offer}
use Rattle.sg_hub.specs.Counts.{dests_of}
use Rattle.sg_hub.proofs.CountLemmas.{dests-more}
use Rattle.sg_hub.proofs.passed.list_dests.Goals as goal

pub loop-record-preserved : goal.loop-record-preserved
loop-record-preserved c =
    let k = c.loop-record.record-index in
    let rs = c.args.records.now in
    let before = c.args.dests.now.items in
    c.in_ok-list_offers.ensures
    ∙ (ap (λ (ds : List ℕ). ds ++ map (λ (o : Offer). o.dest) c.as_slice.result.now) c.loop-record.invariant
    ∙ (ap (λ (os : List Offer). (before ++ dests_of (take k rs)) ++ map (λ (o : Offer). o.dest) os) c.as_slice.ensures
    ∙ dests-more before rs k c.record-item.result (omega arith) c.record-item.is))
