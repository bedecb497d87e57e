use Rattle.std.proofs.Common.{◌∙◌, ap}
use Rattle.sg_fault.specs.Faults.{least}
use Rattle.sg_values.specs.Ranges.{range_faults}
use Rattle.sg_visit.proofs.Leasts.{least-more, least-all}
use Rattle.sg_values.proofs.range.ranges_fault.Goals as goal

pub loop-arg-preserved : goal.loop-arg-preserved
loop-arg-preserved c =
    least-more (range_faults c.args.scale) c.args.args.now _ _ c.loop-arg.first _ _ c.loop-arg-test.true c.loop-arg.invariant (c.range_fault.ensures ∙ ap (λ y. least ((range_faults c.args.scale) y)) c.arg-item.is) c.earlier-first.ensures

pub returns : goal.returns
returns c = least-all (range_faults c.args.scale) _ _ _ c.loop-arg-test.false c.loop-arg.invariant
