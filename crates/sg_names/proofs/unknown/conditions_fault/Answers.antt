use Rattle.std.proofs.Common.{◌∙◌, ap}
use Rattle.sg_fault.specs.Faults.{least}
use Rattle.sg_names.specs.Unknown.{terms_faults}
use Rattle.sg_visit.proofs.Leasts.{least-more, least-all}
use Rattle.sg_names.proofs.unknown.conditions_fault.Goals as goal

pub loop-terms-preserved : goal.loop-terms-preserved
loop-terms-preserved c =
    least-more terms_faults c.args.conditions.now _ _ c.loop-terms.first _ _ c.loop-terms-test.true c.loop-terms.invariant (c.terms_fault.ensures ∙ ap (λ y. least (terms_faults y)) (c.as_slice.ensures ∙ c.terms-item.is)) c.earlier-first.ensures

pub returns : goal.returns
returns c = least-all terms_faults _ _ _ c.loop-terms-test.false c.loop-terms.invariant
