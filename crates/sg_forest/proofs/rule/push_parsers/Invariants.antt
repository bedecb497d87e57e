use Rattle.std.proofs.Common.{List, map, take}
use Rattle.sg_filter.specs.Patterns.{joined}
use Rattle.sg_filter.specs.declared.expr.Expr.{Expr}
use Rattle.sg_forest.specs.Steps.{parsers_steps}
use Rattle.sg_forest.specs.Adds.{AddsElements}
use Rattle.sg_forest.proofs.Parsers.{no_patterns}
use Rattle.sg_forest.proofs.rule.push_parsers.Given as goal

abbrev pub invariant-loop-call : goal.invariant-loop-call
invariant-loop-call l = (named : List Expr) → AddsElements named l.initial.elements.items l.elements.items (parsers_steps (take l.call-index l.calls)) (joined (map no_patterns (take l.call-index l.calls)))
