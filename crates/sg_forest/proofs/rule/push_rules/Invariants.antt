use Rattle.std.proofs.Common.{◌≡◌, ◌++◌, take, map}
use Rattle.std.specs.List.{flat_map}
use Rattle.sg_forest.specs.Written.{written_of, written_in}
use Rattle.sg_forest.proofs.rule.push_rules.Given as goal

abbrev pub invariant-loop-call : goal.invariant-loop-call
invariant-loop-call l = map written_of l.rules.items ≡ map written_of l.initial.rules.items ++ flat_map (written_in l.names) (take l.call-index l.calls)
