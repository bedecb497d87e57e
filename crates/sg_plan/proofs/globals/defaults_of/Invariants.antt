use Rattle.std.proofs.Common.{◌≡◌, take}
use Rattle.std.specs.List.{fold}
use Rattle.sg_driver.specs.Defaults.{AreDefaults, no_options}
use Rattle.sg_plan.specs.Globals.{with_statement}
use Rattle.sg_plan.proofs.globals.defaults_of.Given as goal

abbrev pub invariant-loop-statement : goal.invariant-loop-statement
invariant-loop-statement l = (l.defaults ≡ fold with_statement no_options (take l.statement-index l.statements)) × AreDefaults l.defaults
