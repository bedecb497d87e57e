use Rattle.std.proofs.Common.{◌∙◌, ap}
use Rattle.sg_fault.specs.Faults.{least}
use Rattle.sg_names.specs.Unknown.{part_faults}
use Rattle.sg_visit.proofs.Leasts.{least-more, least-all}
use Rattle.sg_names.proofs.unknown.unknown_fault.Goals as goal

pub loop-part-preserved : goal.loop-part-preserved
loop-part-preserved c =
    least-more part_faults c.args.parts.now _ _ c.loop-part.first _ _ c.loop-part-test.true c.loop-part.invariant (c.part_fault.ensures ∙ ap (λ y. least (part_faults y)) c.part-item.is) c.earlier-first.ensures

pub returns : goal.returns
returns c = least-all part_faults _ _ _ c.loop-part-test.false c.loop-part.invariant
