use Rattle.std.proofs.Common.{◌∙◌, ap}
use Rattle.std.specs.List.{fold}
use Rattle.std.proofs.lemmas.List.{take_all}
use Rattle.sg_driver.specs.Defaults.{no_options}
use Rattle.sg_plan.specs.Globals.{with_statement, defaults_of}
use Rattle.sg_plan.proofs.globals.defaults_of.Goals as goal

pub returns-clause-value : goal.returns-clause-value
unfolding defaults_of
returns-clause-value c = c.loop-statement.invariant.0 ∙ ap (fold with_statement no_options) (take_all _ c.args.statements.now c.loop-statement-test.false)
