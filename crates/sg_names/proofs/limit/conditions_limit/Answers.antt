use Rattle.std.proofs.Common.{◌∙◌, ap}
use Rattle.sg_fault.specs.Faults.{least}
use Rattle.sg_names.specs.Limits.{large_faults}
use Rattle.sg_visit.proofs.Leasts.{least-more, least-all}
use Rattle.sg_names.proofs.limit.conditions_limit.Goals as goal

pub loop-terms-preserved : goal.loop-terms-preserved
loop-terms-preserved c =
    least-more (large_faults c.args.sizes.now) c.args.conditions.now _ _ c.loop-terms.first _ _ c.loop-terms-test.true c.loop-terms.invariant (c.large_fault.ensures ∙ ap (λ y. least (large_faults c.args.sizes.now y)) (c.as_slice.ensures ∙ c.terms-item.is)) c.earlier-first.ensures

pub returns : goal.returns
returns c = least-all (large_faults c.args.sizes.now) _ _ _ c.loop-terms-test.false c.loop-terms.invariant
