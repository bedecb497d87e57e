use Rattle.std.proofs.Common.{◌∙◌, ap}
use Rattle.sg_fault.specs.Faults.{least}
use Rattle.sg_resolve.specs.Globals.{statement_faults, globals_faults}
use Rattle.sg_visit.proofs.Leasts.{least-more, least-all}
use Rattle.sg_resolve.proofs.options.globals_fault.Goals as goal

pub loop-statement-preserved : goal.loop-statement-preserved
loop-statement-preserved c =
    least-more statement_faults c.args.statements.now _ _ c.loop-statement.first _ _ c.loop-statement-test.true c.loop-statement.invariant (c.statement_fault.ensures ∙ ap (λ y. least (statement_faults y)) c.statement-item.is) c.earlier-first.ensures

pub returns : goal.returns
unfolding globals_faults
returns c = least-all statement_faults _ _ _ c.loop-statement-test.false c.loop-statement.invariant
