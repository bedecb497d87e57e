use Rattle.std.proofs.Common.{◌∙◌, ap}
use Rattle.sg_fault.specs.Faults.{least}
use Rattle.sg_values.specs.Parsers.{column_faults}
use Rattle.sg_visit.proofs.Leasts.{least-more, least-all}
use Rattle.sg_values.proofs.parser.column_names_fault.Goals as goal

pub loop-arg-preserved : goal.loop-arg-preserved
loop-arg-preserved c =
    least-more (column_faults c.args.word.now c.args.prefix.now) c.args.args.now _ _ c.loop-arg.first _ _ c.loop-arg-test.true c.loop-arg.invariant (c.column_fault.ensures ∙ ap (λ y. least (column_faults c.args.word.now c.args.prefix.now y)) c.arg-item.is) c.earlier-first.ensures

pub returns : goal.returns
returns c = least-all (column_faults c.args.word.now c.args.prefix.now) _ _ _ c.loop-arg-test.false c.loop-arg.invariant
