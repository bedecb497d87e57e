use Rattle.std.proofs.Common.{◌≡◌, ap, arith, rules}
use Rattle.std.proofs.lemmas.Grind.{common_steps}
use Rattle.std.specs.Prelude.{codes}
use Rattle.sg_parse_base.specs.Lists.{chain, chain_from}
use Rattle.sg_parse_expr.specs.Expr.{group, negation, conjunction}
use Rattle.sg_parse_base.proofs.Turns.{deeper, one_more, no_more}
use Rattle.sg_parse_expr.proofs.expr.+expr.Goals as goal

pub group-returns-then-depth-eq0 : goal.group-returns-then-depth-eq0
unfolding group
group-returns-then-depth-eq0 t c = let none : c.args.depth ≡ 0 = omega arith in rw c.fault.ensures (ap (λ n. group n c.args.cursor.now) none)

pub group-returns : goal.group-returns
unfolding group
group-returns t c = rw (deeper (λ n. group n c.args.cursor.now) c.args.depth (omega arith)) c.grouped.ensures

pub conjuncts-returns-in_err-negation : goal.conjuncts-returns-in_err-negation
unfolding chain
conjuncts-returns-in_err-negation t c = first_of (search rules, grind (arith, common_steps))

pub conjuncts-loop-turn-init : goal.conjuncts-loop-turn-init
unfolding chain
conjuncts-loop-turn-init t c = first_of (search rules, grind (arith, common_steps))

pub conjuncts-returns-then-not-sees_word : goal.conjuncts-returns-then-not-sees_word
unfolding chain_from
conjuncts-returns-then-not-sees_word t c =
    let e = one_more (λ n. chain_from (negation (group c.args.depth)) (codes "and") n c.loop-turn.found c.loop-turn.cursor) _ c.loop-turn._turn c.loop-turn-test.true c.loop-turn.invariant in
    first_of (search rules, grind (arith, common_steps))

pub conjuncts-returns-in_err-negation-2 : goal.conjuncts-returns-in_err-negation-2
unfolding chain_from
conjuncts-returns-in_err-negation-2 t c =
    let e = one_more (λ n. chain_from (negation (group c.args.depth)) (codes "and") n c.loop-turn.found c.loop-turn.cursor) _ c.loop-turn._turn c.loop-turn-test.true c.loop-turn.invariant in
    first_of (search rules, grind (arith, common_steps))

pub conjuncts-loop-turn-preserved : goal.conjuncts-loop-turn-preserved
unfolding chain_from
conjuncts-loop-turn-preserved t c =
    let e = one_more (λ n. chain_from (negation (group c.args.depth)) (codes "and") n c.loop-turn.found c.loop-turn.cursor) _ c.loop-turn._turn c.loop-turn-test.true c.loop-turn.invariant in
    first_of (search rules, grind (arith, common_steps))

pub conjuncts-returns : goal.conjuncts-returns
unfolding chain_from
conjuncts-returns t c =
    let e = no_more (λ n. chain_from (negation (group c.args.depth)) (codes "and") n c.loop-turn.found c.loop-turn.cursor) _ c.loop-turn._turn c.loop-turn-test.false c.loop-turn.invariant in
    first_of (search rules, grind (arith, common_steps))

pub disjuncts-returns-in_err-conjunction : goal.disjuncts-returns-in_err-conjunction
unfolding chain
disjuncts-returns-in_err-conjunction t c = first_of (search rules, grind (arith, common_steps))

pub disjuncts-loop-turn-init : goal.disjuncts-loop-turn-init
unfolding chain
disjuncts-loop-turn-init t c = first_of (search rules, grind (arith, common_steps))

pub disjuncts-returns-then-not-sees_word : goal.disjuncts-returns-then-not-sees_word
unfolding chain_from
disjuncts-returns-then-not-sees_word t c =
    let e = one_more (λ n. chain_from (conjunction (group c.args.depth)) (codes "or") n c.loop-turn.found c.loop-turn.cursor) _ c.loop-turn._turn c.loop-turn-test.true c.loop-turn.invariant in
    first_of (search rules, grind (arith, common_steps))

pub disjuncts-returns-in_err-conjunction-2 : goal.disjuncts-returns-in_err-conjunction-2
unfolding chain_from
disjuncts-returns-in_err-conjunction-2 t c =
    let e = one_more (λ n. chain_from (conjunction (group c.args.depth)) (codes "or") n c.loop-turn.found c.loop-turn.cursor) _ c.loop-turn._turn c.loop-turn-test.true c.loop-turn.invariant in
    first_of (search rules, grind (arith, common_steps))

pub disjuncts-loop-turn-preserved : goal.disjuncts-loop-turn-preserved
unfolding chain_from
disjuncts-loop-turn-preserved t c =
    let e = one_more (λ n. chain_from (conjunction (group c.args.depth)) (codes "or") n c.loop-turn.found c.loop-turn.cursor) _ c.loop-turn._turn c.loop-turn-test.true c.loop-turn.invariant in
    first_of (search rules, grind (arith, common_steps))

pub disjuncts-returns : goal.disjuncts-returns
unfolding chain_from
disjuncts-returns t c =
    let e = no_more (λ n. chain_from (conjunction (group c.args.depth)) (codes "or") n c.loop-turn.found c.loop-turn.cursor) _ c.loop-turn._turn c.loop-turn-test.false c.loop-turn.invariant in
    first_of (search rules, grind (arith, common_steps))
