use Rattle.std.proofs.Common.{◌≡◌, ap, arith, rules}
use Rattle.std.proofs.lemmas.Grind.{common_steps}
use Rattle.sg_parse_base.specs.Lists.{body, body_from}
use Rattle.sg_parse_base.proofs.Turns.{deeper, one_more, no_more}
use Rattle.sg_parse_path.specs.Paths.{block, channel, arms, arms_from, pieces, pieces_from}
use Rattle.sg_parse_path.proofs.path.+path.Goals as goal

pub block-returns-then-depth-eq0 : goal.block-returns-then-depth-eq0
unfolding block
block-returns-then-depth-eq0 t c =
    let none : c.args.depth ≡ 0 = omega arith in rw c.too_deep.ensures (ap (λ n. block n c.args.stage c.args.cursor.now) none)

pub block-returns : goal.block-returns
unfolding block
block-returns t c = rw (deeper (λ n. block n c.args.stage c.args.cursor.now) c.args.depth (omega arith)) c.braced.ensures

pub channels-returns-in_err-symbol : goal.channels-returns-in_err-symbol
unfolding body
channels-returns-in_err-symbol t c = first_of (search rules, grind (arith, common_steps))

pub channels-loop-turn-init : goal.channels-loop-turn-init
unfolding body
channels-loop-turn-init t c = first_of (search rules, grind (arith, common_steps))

pub channels-returns-then-sees : goal.channels-returns-then-sees
unfolding body_from
channels-returns-then-sees t c =
    let e = one_more (λ n. body_from (channel (block c.args.depth)) n c.loop-turn.found c.loop-turn.cursor) _ c.loop-turn._turn c.loop-turn-test.true c.loop-turn.invariant in
    first_of (search rules, grind (arith, common_steps))

pub channels-loop-turn-preserved-then-sees-2 : goal.channels-loop-turn-preserved-then-sees-2
unfolding body_from
channels-loop-turn-preserved-then-sees-2 t c =
    let e = one_more (λ n. body_from (channel (block c.args.depth)) n c.loop-turn.found c.loop-turn.cursor) _ c.loop-turn._turn c.loop-turn-test.true c.loop-turn.invariant in
    first_of (search rules, grind (arith, common_steps))

pub channels-returns-in_err-worded : goal.channels-returns-in_err-worded
unfolding body_from
channels-returns-in_err-worded t c =
    let e = one_more (λ n. body_from (channel (block c.args.depth)) n c.loop-turn.found c.loop-turn.cursor) _ c.loop-turn._turn c.loop-turn-test.true c.loop-turn.invariant in
    first_of (search rules, grind (arith, common_steps))

pub channels-returns-in_err-ending : goal.channels-returns-in_err-ending
unfolding body_from
channels-returns-in_err-ending t c =
    let e = one_more (λ n. body_from (channel (block c.args.depth)) n c.loop-turn.found c.loop-turn.cursor) _ c.loop-turn._turn c.loop-turn-test.true c.loop-turn.invariant in
    first_of (search rules, grind (arith, common_steps))

pub channels-loop-turn-preserved : goal.channels-loop-turn-preserved
unfolding body_from
channels-loop-turn-preserved t c =
    let e = one_more (λ n. body_from (channel (block c.args.depth)) n c.loop-turn.found c.loop-turn.cursor) _ c.loop-turn._turn c.loop-turn-test.true c.loop-turn.invariant in
    first_of (search rules, grind (arith, common_steps))

pub channels-returns : goal.channels-returns
unfolding body_from
channels-returns t c =
    let e = no_more (λ n. body_from (channel (block c.args.depth)) n c.loop-turn.found c.loop-turn.cursor) _ c.loop-turn._turn c.loop-turn-test.false c.loop-turn.invariant in
    first_of (search rules, grind (arith, common_steps))

pub arms-returns-in_err-arm : goal.arms-returns-in_err-arm
unfolding arms
arms-returns-in_err-arm t c = first_of (search rules, grind (arith, common_steps))

pub arms-loop-turn-init : goal.arms-loop-turn-init
unfolding arms
arms-loop-turn-init t c = first_of (search rules, grind (arith, common_steps))

pub arms-returns-then-not-sees_word : goal.arms-returns-then-not-sees_word
unfolding arms_from
arms-returns-then-not-sees_word t c =
    let e = one_more (λ n. arms_from c.args.depth (block c.args.depth) n c.loop-turn.found c.loop-turn.cursor) _ c.loop-turn._turn c.loop-turn-test.true c.loop-turn.invariant in
    first_of (search rules, grind (arith, common_steps))

pub arms-returns-in_err-arm-2 : goal.arms-returns-in_err-arm-2
unfolding arms_from
arms-returns-in_err-arm-2 t c =
    let e = one_more (λ n. arms_from c.args.depth (block c.args.depth) n c.loop-turn.found c.loop-turn.cursor) _ c.loop-turn._turn c.loop-turn-test.true c.loop-turn.invariant in
    first_of (search rules, grind (arith, common_steps))

pub arms-loop-turn-preserved : goal.arms-loop-turn-preserved
unfolding arms_from
arms-loop-turn-preserved t c =
    let e = one_more (λ n. arms_from c.args.depth (block c.args.depth) n c.loop-turn.found c.loop-turn.cursor) _ c.loop-turn._turn c.loop-turn-test.true c.loop-turn.invariant in
    first_of (search rules, grind (arith, common_steps))

pub arms-returns : goal.arms-returns
unfolding arms_from
arms-returns t c =
    let e = no_more (λ n. arms_from c.args.depth (block c.args.depth) n c.loop-turn.found c.loop-turn.cursor) _ c.loop-turn._turn c.loop-turn-test.false c.loop-turn.invariant in
    first_of (search rules, grind (arith, common_steps))

pub pieces-loop-turn-init : goal.pieces-loop-turn-init
unfolding pieces
pieces-loop-turn-init t c = first_of (search rules, grind (arith, common_steps))

pub pieces-returns-then-sees : goal.pieces-returns-then-sees
unfolding pieces_from
pieces-returns-then-sees t c =
    let e = one_more (λ n. pieces_from c.args.depth (block c.args.depth) n c.loop-turn.stage c.loop-turn.found c.loop-turn.cursor) _ c.loop-turn._turn c.loop-turn-test.true c.loop-turn.invariant in
    first_of (search rules, grind (arith, common_steps))

pub pieces-loop-turn-preserved-then-sees-2 : goal.pieces-loop-turn-preserved-then-sees-2
unfolding pieces_from
pieces-loop-turn-preserved-then-sees-2 t c =
    let e = one_more (λ n. pieces_from c.args.depth (block c.args.depth) n c.loop-turn.stage c.loop-turn.found c.loop-turn.cursor) _ c.loop-turn._turn c.loop-turn-test.true c.loop-turn.invariant in
    first_of (search rules, grind (arith, common_steps))

pub pieces-returns-in_err-piece : goal.pieces-returns-in_err-piece
unfolding pieces_from
pieces-returns-in_err-piece t c =
    let e = one_more (λ n. pieces_from c.args.depth (block c.args.depth) n c.loop-turn.stage c.loop-turn.found c.loop-turn.cursor) _ c.loop-turn._turn c.loop-turn-test.true c.loop-turn.invariant in
    first_of (search rules, grind (arith, common_steps))

pub pieces-returns-in_err-ending : goal.pieces-returns-in_err-ending
unfolding pieces_from
pieces-returns-in_err-ending t c =
    let e = one_more (λ n. pieces_from c.args.depth (block c.args.depth) n c.loop-turn.stage c.loop-turn.found c.loop-turn.cursor) _ c.loop-turn._turn c.loop-turn-test.true c.loop-turn.invariant in
    first_of (search rules, grind (arith, common_steps))

pub pieces-loop-turn-preserved : goal.pieces-loop-turn-preserved
unfolding pieces_from
pieces-loop-turn-preserved t c =
    let e = one_more (λ n. pieces_from c.args.depth (block c.args.depth) n c.loop-turn.stage c.loop-turn.found c.loop-turn.cursor) _ c.loop-turn._turn c.loop-turn-test.true c.loop-turn.invariant in
    first_of (search rules, grind (arith, common_steps))

pub pieces-returns : goal.pieces-returns
unfolding pieces_from
pieces-returns t c =
    let e = no_more (λ n. pieces_from c.args.depth (block c.args.depth) n c.loop-turn.stage c.loop-turn.found c.loop-turn.cursor) _ c.loop-turn._turn c.loop-turn-test.false c.loop-turn.invariant in
    first_of (search rules, grind (arith, common_steps))
