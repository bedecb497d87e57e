use Rattle.std.proofs.Common.{take, map, []}
use Rattle.std.specs.List.{flat_map}
use Rattle.sg_forest.specs.Statements.{logs_at}
use Rattle.sg_forest.specs.Adds.{AddsTops}
use Rattle.sg_forest.proofs.statement.tops_of.Given as goal

abbrev pub invariant-loop-statement : goal.invariant-loop-statement
invariant-loop-statement l = AddsTops l.names l.ends (map (λ calls. calls.now) l.rewrites) (flat_map logs_at (take l.statement-index l.statements)) [] l.found.items
