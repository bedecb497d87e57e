use Rattle.std.proofs.Common.{◌∙◌, ap}
use Rattle.sg_fault.specs.Faults.{least}
use Rattle.sg_resolve.specs.Places.{flag_faults}
use Rattle.sg_visit.proofs.Leasts.{least-more, least-all}
use Rattle.sg_resolve.proofs.place.flags_fault.Goals as goal

pub loop-flag-preserved : goal.loop-flag-preserved
loop-flag-preserved c =
    least-more flag_faults c.args.flags.now _ _ c.loop-flag.first _ _ c.loop-flag-test.true c.loop-flag.invariant (c.flag_fault.ensures ∙ ap (λ y. least (flag_faults y)) c.flag-item.is) c.earlier-first.ensures

pub returns : goal.returns
returns c = least-all flag_faults _ _ _ c.loop-flag-test.false c.loop-flag.invariant
