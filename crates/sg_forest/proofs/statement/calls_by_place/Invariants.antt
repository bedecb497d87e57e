use Rattle.std.proofs.Common.{◌≡◌, take, map}
use Rattle.std.specs.List.{flat_map}
use Rattle.sg_forest.specs.Statements.{rewrites_at}
use Rattle.sg_forest.proofs.statement.calls_by_place.Given as goal

abbrev pub invariant-loop-statement : goal.invariant-loop-statement
invariant-loop-statement l = map (λ calls. calls.now) l.found.items ≡ flat_map rewrites_at (take l.statement-index l.statements)
