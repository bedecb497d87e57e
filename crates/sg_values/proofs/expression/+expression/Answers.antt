use Rattle.std.proofs.Common.{◌∙◌, ap}
use Rattle.sg_fault.specs.Faults.{least}
use Rattle.sg_values.specs.Expressions.{expression_faults}
use Rattle.sg_visit.proofs.Leasts.{least-more, least-all}
use Rattle.sg_values.proofs.expression.+expression.Goals as goal

pub terms_fault-loop-term-preserved : goal.terms_fault-loop-term-preserved
terms_fault-loop-term-preserved t c =
    least-more expression_faults c.args.terms.now _ _ c.loop-term.first _ _ c.loop-term-test.true c.loop-term.invariant (c.expression_fault.ensures ∙ ap (λ y. least (expression_faults y)) c.term-item.is) c.earlier-first.ensures

pub terms_fault-returns : goal.terms_fault-returns
terms_fault-returns t c = least-all expression_faults _ _ _ c.loop-term-test.false c.loop-term.invariant
