use Rattle.std.proofs.Common.{◌≡◌, ◌++◌, take, map}
use Rattle.std.specs.List.{flat_map}
use Rattle.sg_forest.specs.Statements.{parsers_at}
use Rattle.sg_forest.proofs.statement.push_parsers_by_place.Given as goal

abbrev pub invariant-loop-statement : goal.invariant-loop-statement
invariant-loop-statement l = map (λ calls. calls.now) l.found.items ≡ map (λ calls. calls.now) l.initial.found.items ++ flat_map parsers_at (take l.statement-index l.statements)
