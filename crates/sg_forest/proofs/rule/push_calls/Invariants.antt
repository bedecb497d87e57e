use Rattle.std.proofs.Common.{List, take}
use Rattle.sg_filter.specs.declared.expr.Expr.{Expr}
use Rattle.sg_forest.specs.Steps.{rewrite_steps}
use Rattle.sg_forest.specs.Patterns.{rewrite_patterns}
use Rattle.sg_forest.specs.Adds.{AddsElements}
use Rattle.sg_forest.proofs.rule.push_calls.Given as goal

abbrev pub invariant-loop-call : goal.invariant-loop-call
invariant-loop-call l =
    (named : List Expr) → AddsElements named l.initial.elements.items l.elements.items (rewrite_steps l.names named (take l.call-index l.calls)) (rewrite_patterns l.names named (take l.call-index l.calls))
