use Rattle.std.proofs.Common.{◌≡◌, List, take, map}
use Rattle.sg_filter.specs.declared.expr.Expr.{Expr}
use Rattle.sg_table.specs.Patterns as table
use Rattle.sg_table.specs.Compiled.{own, choices}
use Rattle.sg_forest.specs.Steps.{branch_steps, log_steps}
use Rattle.sg_forest.specs.Patterns.{branch_patterns, log_patterns}
use Rattle.sg_forest.specs.Adds.{AreElements}
use Rattle.sg_forest.proofs.element.+lower.Given as goal

abbrev pub invariant-lower_elements-loop-element : goal.invariant-lower_elements-loop-element
invariant-lower_elements-loop-element l = AreElements l.names l.outlets (map (λ calls. calls.now) l.rewrites) (take l.element-index l.elements) l.found.items

abbrev pub invariant-lower_branches-loop-branch : goal.invariant-lower_branches-loop-branch
invariant-lower_branches-loop-branch l =
    (named : List Expr)
    → (choices named l.made.items ≡ map (branch_steps l.names l.outlets (map (λ calls. calls.now) l.rewrites) named) (take l.branch-index l.branches))
    × (map (table.branch_patterns named) l.made.items ≡ map (branch_patterns l.names (map (λ calls. calls.now) l.rewrites) named) (take l.branch-index l.branches))

abbrev pub invariant-lower_logs-loop-log : goal.invariant-lower_logs-loop-log
invariant-lower_logs-loop-log l =
    (named : List Expr)
    → (map (own named) l.made.items ≡ map (log_steps l.names l.outlets (map (λ calls. calls.now) l.rewrites) named) (take l.log-index l.logs))
    × (map (table.path_patterns named) l.made.items ≡ map (log_patterns l.names (map (λ calls. calls.now) l.rewrites) named) (take l.log-index l.logs))
