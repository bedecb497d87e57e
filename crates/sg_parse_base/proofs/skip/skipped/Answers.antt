use Rattle.std.proofs.Common.{rules, arith, ap, refl, reverse}
use Rattle.std.proofs.lemmas.Grind.{common_steps}
use Rattle.sg_parse_base.specs.Skipping.{skipped, skipped_from}
use Rattle.sg_parse_base.proofs.Turns.{no_more}
use Rattle.sg_parse_base.proofs.SkipSteps.{refused, finished, goes_on, nothing_reversed}
use Rattle.sg_parse_base.proofs.skip.skipped.Goals as goal

pub returns-in_err-symbol : goal.returns-in_err-symbol
unfolding skipped
returns-in_err-symbol c = first_of (search rules, grind (arith, common_steps))

pub loop-turn-init : goal.loop-turn-init
unfolding skipped
loop-turn-init c = first_of (search rules, grind (arith, common_steps))

pub returns-then-not-branch : goal.returns-then-not-branch
returns-then-not-branch c =
    rw c.fault.ensures (refused _ c.loop-turn._turn (reverse c.loop-turn.open_ones) (reverse c.pass.new.open_ones) c.loop-turn.cursor c.next_bracket.result c.in_ok-pass.field-0 c.loop-turn.invariant c.loop-turn-test.true c.next_bracket.ensures (c.in_ok-pass.ensures {u = tt}) c.if-not-branch.true)

pub returns-then-is_empty : goal.returns-then-is_empty
returns-then-is_empty c =
    rw c.skip.ensures (finished _ c.loop-turn._turn (reverse c.loop-turn.open_ones) (reverse c.pass.new.open_ones) c.loop-turn.cursor c.next_bracket.result c.in_ok-pass.field-0 c.loop-turn.invariant c.loop-turn-test.true c.next_bracket.ensures (c.in_ok-pass.ensures {u = tt}) c.if-not-branch.false (ap reverse (c.if-is_empty.ensures.0 refl)))

pub loop-turn-preserved : goal.loop-turn-preserved
loop-turn-preserved c =
    rw c.skip.ensures (goes_on _ c.loop-turn._turn (reverse c.loop-turn.open_ones) (reverse c.pass.new.open_ones) c.loop-turn.cursor c.next_bracket.result c.in_ok-pass.field-0 c.loop-turn.invariant c.loop-turn-test.true c.next_bracket.ensures (c.in_ok-pass.ensures {u = tt}) c.if-not-branch.false (λ e. let empty = c.if-is_empty.ensures.1 (nothing_reversed c.pass.new.open_ones e) in absurd cc))

pub returns : goal.returns
unfolding skipped_from
returns c =
    let e = no_more (λ n. skipped_from n (reverse c.loop-turn.open_ones) c.loop-turn.cursor) _ c.loop-turn._turn c.loop-turn-test.false c.loop-turn.invariant in
    rw c.fault-2.ensures e
