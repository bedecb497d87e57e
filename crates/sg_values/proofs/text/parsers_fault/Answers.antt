use Rattle.std.proofs.Common.{◌∙◌, ap}
use Rattle.sg_fault.specs.Faults.{least}
use Rattle.sg_values.specs.Parsers.{parser_faults}
use Rattle.sg_visit.proofs.Leasts.{least-more, least-all}
use Rattle.sg_values.proofs.text.parsers_fault.Goals as goal

pub loop-call-preserved : goal.loop-call-preserved
loop-call-preserved c =
    least-more parser_faults c.args.calls.now _ _ c.loop-call.first _ _ c.loop-call-test.true c.loop-call.invariant (c.parser_fault.ensures ∙ ap (λ y. least (parser_faults y)) c.call-item.is) c.earlier-first.ensures

pub returns : goal.returns
returns c = least-all parser_faults _ _ _ c.loop-call-test.false c.loop-call.invariant
