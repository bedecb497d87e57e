use Rattle.std.proofs.Common.{◌≡◌, ◌+◌, ◌*◌, ◌-◌}
use Rattle.std.specs.Prelude.{codes}
use Rattle.sg_parse_base.specs.Lists.{chain, chain_from}
use Rattle.sg_parse_expr.specs.Expr.{group, negation, conjunction}
use Rattle.sg_parse_expr.proofs.expr.+expr.Given as goal

abbrev pub decreases-disjunction : goal.decreases-disjunction
decreases-disjunction l = 8 * l.depth + 6

abbrev pub decreases-disjuncts : goal.decreases-disjuncts
decreases-disjuncts l = 8 * l.depth + 5

abbrev pub decreases-conjunction : goal.decreases-conjunction
decreases-conjunction l = 8 * l.depth + 4

abbrev pub decreases-conjuncts : goal.decreases-conjuncts
decreases-conjuncts l = 8 * l.depth + 3

abbrev pub decreases-negation : goal.decreases-negation
decreases-negation l = 8 * l.depth + 2

abbrev pub decreases-primary : goal.decreases-primary
decreases-primary l = 8 * l.depth + 1

abbrev pub decreases-group : goal.decreases-group
decreases-group l = 8 * l.depth

abbrev pub invariant-conjuncts-loop-turn : goal.invariant-conjuncts-loop-turn
invariant-conjuncts-loop-turn l =
    chain (negation (group l.depth)) (codes "and") l.fn.cursor ≡ chain_from (negation (group l.depth)) (codes "and") (l._turn-end - l._turn) l.found l.cursor

abbrev pub invariant-disjuncts-loop-turn : goal.invariant-disjuncts-loop-turn
invariant-disjuncts-loop-turn l =
    chain (conjunction (group l.depth)) (codes "or") l.fn.cursor ≡ chain_from (conjunction (group l.depth)) (codes "or") (l._turn-end - l._turn) l.found l.cursor

abbrev pub decreases-grouped : goal.decreases-grouped
decreases-grouped l = 8 * l.depth + 7
