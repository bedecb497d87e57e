use Rattle.std.proofs.Common.{◌≡◌, take}
use Rattle.std.specs.List.{flat_map}
use Rattle.sg_forest.specs.Statements.{filters_at}
use Rattle.sg_forest.proofs.statement.filters_of.Given as goal

abbrev pub invariant-loop-statement : goal.invariant-loop-statement
invariant-loop-statement l = l.found.items ≡ flat_map (filters_at l.names) (take l.statement-index l.statements)
