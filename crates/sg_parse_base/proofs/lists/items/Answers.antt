use Rattle.std.proofs.Common.{rules, arith}
use Rattle.std.proofs.lemmas.Grind.{common_steps}
use Rattle.sg_parse_base.specs.Lists.{items, items_from}
use Rattle.sg_parse_base.proofs.Turns.{one_more, no_more}
use Rattle.sg_parse_base.proofs.lists.items.Goals as goal

pub loop-turn-init : goal.loop-turn-init
unfolding items
loop-turn-init g c = first_of (search rules, grind (arith, common_steps))

pub returns-then-sees : goal.returns-then-sees
unfolding items_from
returns-then-sees g c =
    let e = one_more (λ n. items_from (g.R.ItemRule.parser c.args.rule.now) n c.loop-turn.found c.loop-turn.cursor) _ c.loop-turn._turn c.loop-turn-test.true c.loop-turn.invariant in
    first_of (search rules, grind (arith, common_steps))

pub returns-in_err-read : goal.returns-in_err-read
unfolding items_from
returns-in_err-read g c =
    let e = one_more (λ n. items_from (g.R.ItemRule.parser c.args.rule.now) n c.loop-turn.found c.loop-turn.cursor) _ c.loop-turn._turn c.loop-turn-test.true c.loop-turn.invariant in
    first_of (search rules, grind (arith, common_steps))

pub returns-in_err-gap : goal.returns-in_err-gap
unfolding items_from
returns-in_err-gap g c =
    let e = one_more (λ n. items_from (g.R.ItemRule.parser c.args.rule.now) n c.loop-turn.found c.loop-turn.cursor) _ c.loop-turn._turn c.loop-turn-test.true c.loop-turn.invariant in
    first_of (search rules, grind (arith, common_steps))

pub loop-turn-preserved : goal.loop-turn-preserved
unfolding items_from
loop-turn-preserved g c =
    let e = one_more (λ n. items_from (g.R.ItemRule.parser c.args.rule.now) n c.loop-turn.found c.loop-turn.cursor) _ c.loop-turn._turn c.loop-turn-test.true c.loop-turn.invariant in
    first_of (search rules, grind (arith, common_steps))

pub returns : goal.returns
unfolding items_from
returns g c =
    let e = no_more (λ n. items_from (g.R.ItemRule.parser c.args.rule.now) n c.loop-turn.found c.loop-turn.cursor) _ c.loop-turn._turn c.loop-turn-test.false c.loop-turn.invariant in
    first_of (search rules, grind (arith, common_steps))
