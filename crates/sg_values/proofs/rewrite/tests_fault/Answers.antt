use Rattle.std.proofs.Common.{◌∙◌, ap}
use Rattle.sg_fault.specs.Faults.{least}
use Rattle.sg_values.specs.Conditions.{test_faults}
use Rattle.sg_visit.proofs.Leasts.{least-more, least-all}
use Rattle.sg_values.proofs.rewrite.tests_fault.Goals as goal

pub loop-arg-preserved : goal.loop-arg-preserved
loop-arg-preserved c =
    least-more test_faults c.args.args.now _ _ c.loop-arg.first _ _ c.loop-arg-test.true c.loop-arg.invariant (c.test_fault.ensures ∙ ap (λ y. least (test_faults y)) c.arg-item.is) c.earlier-first.ensures

pub returns : goal.returns
returns c = least-all test_faults _ _ _ c.loop-arg-test.false c.loop-arg.invariant
