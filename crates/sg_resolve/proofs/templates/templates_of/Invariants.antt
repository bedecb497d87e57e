use Rattle.std.proofs.Common.{◌≡◌, take}
use Rattle.std.specs.List.{fold}
use Rattle.std.specs.FinMap as map
use Rattle.sg_resolve.specs.Templates.{with_statement}
use Rattle.sg_resolve.proofs.templates.templates_of.Given as goal

abbrev pub invariant-loop-statement : goal.invariant-loop-statement
invariant-loop-statement l = l.texts ≡ fold with_statement (record { texts = map.empty }) (take l.statement-index l.statements)
