use Rattle.std.proofs.Common.{◌≡◌, take, map}
use Rattle.std.specs.List.{flat_map}
use Rattle.sg_forest.specs.Written.{written_of}
use Rattle.sg_forest.specs.Statements.{written_at}
use Rattle.sg_forest.proofs.statement.rules_of.Given as goal

abbrev pub invariant-loop-calls : goal.invariant-loop-calls
invariant-loop-calls l = map written_of l.found.items ≡ flat_map (λ calls. written_at l.names calls.now) (take l.calls-index l.rewrites)
