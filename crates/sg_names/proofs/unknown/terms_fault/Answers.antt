use Rattle.std.proofs.Common.{◌∙◌, ap}
use Rattle.sg_fault.specs.Faults.{least}
use Rattle.sg_names.specs.Unknown.{term_faults}
use Rattle.sg_visit.proofs.Leasts.{least-more, least-all}
use Rattle.sg_names.proofs.unknown.terms_fault.Goals as goal

pub loop-term-preserved : goal.loop-term-preserved
loop-term-preserved c =
    least-more term_faults c.args.terms.now _ _ c.loop-term.first _ _ c.loop-term-test.true c.loop-term.invariant (c.term_fault.ensures) c.earlier-first.ensures

pub returns : goal.returns
returns c = least-all term_faults _ _ _ c.loop-term-test.false c.loop-term.invariant
