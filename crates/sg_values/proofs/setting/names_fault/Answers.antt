use Rattle.std.proofs.Common.{◌∙◌, ap}
use Rattle.sg_fault.specs.Faults.{least}
use Rattle.sg_values.specs.Settings.{name_faults}
use Rattle.sg_visit.proofs.Leasts.{least-more, least-all}
use Rattle.sg_values.proofs.setting.names_fault.Goals as goal

pub loop-arg-preserved : goal.loop-arg-preserved
loop-arg-preserved c =
    least-more name_faults c.args.args.now _ _ c.loop-arg.first _ _ c.loop-arg-test.true c.loop-arg.invariant (c.name_fault.ensures ∙ ap (λ y. least (name_faults y)) c.arg-item.is) c.earlier-first.ensures

pub returns : goal.returns
returns c = least-all name_faults _ _ _ c.loop-arg-test.false c.loop-arg.invariant
