use Rattle.std.proofs.Common.{◌≤◌, ◌∙◌, arith}
use Rattle.sg_msg.proofs.SunkPairs.{sunk-parts, sunk-within}
use Rattle.sg_msg.proofs.sorting.+sink.Goals as goal

-- the two changed places, and it sinks on
pub returns-then-is_over-clause-same : goal.returns-then-is_over-clause-same
returns-then-is_over-clause-same t c =
    let texts = c.args.texts.now in
    let some : 1 ≤ c.args.at = omega (arith, c.if-at-eq0.false) in
    c.sink.ensures.same ∙ sunk-parts texts.item texts.own.items c.args.pairs.now.items c.swap.new.self.items c.args.at c.index.result.now c.index-2.result.now some c.requires c.index.ensures c.index-2.ensures c.swap.ensures.items (c.is_over.ensures c.if-is_over.true)

pub returns-then-is_over-clause-within : goal.returns-then-is_over-clause-within
returns-then-is_over-clause-within t c = λ all.
    let texts = c.args.texts.now in
    let some : 1 ≤ c.args.at = omega (arith, c.if-at-eq0.false) in
    c.sink.ensures.within (sunk-within texts.item texts.own.items c.args.pairs.now.items c.swap.new.self.items c.args.at c.index.result.now c.index-2.result.now some c.requires c.index.ensures c.index-2.ensures c.swap.ensures.items all)
