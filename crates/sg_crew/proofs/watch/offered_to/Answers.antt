use Rattle.std.proofs.Common.{arith, take, ap, ◌∙◌}
use Rattle.sg_hub.specs.declared.passed.Offered.{Offered}
use Rattle.sg_crew.specs.Looks.{offered_by_both, offered_by_all}
use Rattle.sg_crew.proofs.LookLemmas.{offered-more}
use Rattle.sg_crew.proofs.watch.offered_to.Goals as goal

pub loop-source-preserved : goal.loop-source-preserved
loop-source-preserved g c =
    let k = c.loop-source.source-index in
    let ws = c.args.sources.now in
    let before = offered_by_all c.args.dest (take k ws) in
    c.sum-all.ensures
    ∙ (ap (λ (o : Offered). offered_by_both o c.offered_by.result) c.loop-source.invariant
    ∙ (ap (λ (o : Offered). offered_by_both before o) c.offered_by.ensures ∙ offered-more c.args.dest ws k c.source-item.result (omega arith) c.source-item.is))
