use Rattle.std.proofs.Common.{rules, arith}
use Rattle.std.proofs.lemmas.Grind.{common_steps}
use Rattle.sg_parse_base.specs.Lists.{body, body_from}
use Rattle.sg_parse_base.proofs.Turns.{one_more, no_more}
use Rattle.sg_parse_base.proofs.lists.body.Goals as goal

pub returns-in_err-symbol : goal.returns-in_err-symbol
unfolding body
returns-in_err-symbol g c = first_of (search rules, grind (arith, common_steps))

pub loop-turn-init : goal.loop-turn-init
unfolding body
loop-turn-init g c = first_of (search rules, grind (arith, common_steps))

pub returns-then-sees : goal.returns-then-sees
unfolding body_from
returns-then-sees g c =
    let e = one_more (λ n. body_from (g.R.ItemRule.parser c.args.rule.now) n c.loop-turn.found c.loop-turn.cursor) _ c.loop-turn._turn c.loop-turn-test.true c.loop-turn.invariant in
    first_of (search rules, grind (arith, common_steps))

pub loop-turn-preserved-then-sees-2 : goal.loop-turn-preserved-then-sees-2
unfolding body_from
loop-turn-preserved-then-sees-2 g c =
    let e = one_more (λ n. body_from (g.R.ItemRule.parser c.args.rule.now) n c.loop-turn.found c.loop-turn.cursor) _ c.loop-turn._turn c.loop-turn-test.true c.loop-turn.invariant in
    first_of (search rules, grind (arith, common_steps))

pub returns-in_err-read : goal.returns-in_err-read
unfolding body_from
returns-in_err-read g c =
    let e = one_more (λ n. body_from (g.R.ItemRule.parser c.args.rule.now) n c.loop-turn.found c.loop-turn.cursor) _ c.loop-turn._turn c.loop-turn-test.true c.loop-turn.invariant in
    first_of (search rules, grind (arith, common_steps))

pub returns-in_err-ending : goal.returns-in_err-ending
unfolding body_from
returns-in_err-ending g c =
    let e = one_more (λ n. body_from (g.R.ItemRule.parser c.args.rule.now) n c.loop-turn.found c.loop-turn.cursor) _ c.loop-turn._turn c.loop-turn-test.true c.loop-turn.invariant in
    first_of (search rules, grind (arith, common_steps))

pub loop-turn-preserved : goal.loop-turn-preserved
unfolding body_from
loop-turn-preserved g c =
    let e = one_more (λ n. body_from (g.R.ItemRule.parser c.args.rule.now) n c.loop-turn.found c.loop-turn.cursor) _ c.loop-turn._turn c.loop-turn-test.true c.loop-turn.invariant in
    first_of (search rules, grind (arith, common_steps))

pub returns : goal.returns
unfolding body_from
returns g c =
    let e = no_more (λ n. body_from (g.R.ItemRule.parser c.args.rule.now) n c.loop-turn.found c.loop-turn.cursor) _ c.loop-turn._turn c.loop-turn-test.false c.loop-turn.invariant in
    first_of (search rules, grind (arith, common_steps))
