use Rattle.std.proofs.Common.{◌∙◌, ap}
use Rattle.sg_fault.specs.Faults.{least}
use Rattle.sg_resolve.specs.Places.{top_element_faults}
use Rattle.sg_visit.proofs.Leasts.{least-more, least-all}
use Rattle.sg_resolve.proofs.place.top_elements_fault.Goals as goal

pub loop-element-preserved : goal.loop-element-preserved
loop-element-preserved c =
    least-more top_element_faults c.args.elements.now _ _ c.loop-element.first _ _ c.loop-element-test.true c.loop-element.invariant (c.top_element_fault.ensures ∙ ap (λ y. least (top_element_faults y)) c.element-item.is) c.earlier-first.ensures

pub returns : goal.returns
returns c = least-all top_element_faults _ _ _ c.loop-element-test.false c.loop-element.invariant
