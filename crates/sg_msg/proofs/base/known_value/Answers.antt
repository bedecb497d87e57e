use Rattle.std.proofs.Common.{ℕ, List, Option, Some, ap, sym, ◌∙◌}
use Rattle.sg_msg.proofs.TextLemmas.{known-test}
use Rattle.sg_msg.proofs.PartChanges.{value-here, value-later}
use Rattle.sg_msg.proofs.base.known_value.Goals as goal

-- a pair of that name has that text, and another pair hasn't
pub returns-then-is_one : goal.returns-then-is_one
returns-then-is_one c =
    let texts = c.args.texts.now in
    let test = known-test texts.own.items _ c.args.known c.args.name.now c.is_one.result (c.requires.within c.loop-pair.pair-index _ c.loop-pair-test.true).name c.requires.known c.is_one.ensures.0 c.is_one.ensures.1 in
    let some : List ℕ → Option (List ℕ) = λ v. Some v in
    ap some c.value.ensures
    ∙ sym (value-here texts.item texts.own.items c.args.name.now c.args.pairs.now c.loop-pair.pair-index _ c.loop-pair-test.true (test ∙ c.if-is_one.true))
    ∙ c.loop-pair.invariant

pub loop-pair-preserved : goal.loop-pair-preserved
loop-pair-preserved c =
    let texts = c.args.texts.now in
    let test = known-test texts.own.items _ c.args.known c.args.name.now c.is_one.result (c.requires.within c.loop-pair.pair-index _ c.loop-pair-test.true).name c.requires.known c.is_one.ensures.0 c.is_one.ensures.1 in
    sym (value-later texts.item texts.own.items c.args.name.now c.args.pairs.now c.loop-pair.pair-index _ c.loop-pair-test.true (test ∙ c.if-is_one.false))
    ∙ c.loop-pair.invariant
