use Rattle.std.proofs.Common.{arith}
use Rattle.sg_msg.proofs.LengthLemmas.{tag_lengths-step, tag_lengths-end}
use Rattle.sg_msg.proofs.length.less_tags.Goals as goal

pub returns-in_err-left : goal.returns-in_err-left
returns-in_err-left c =
    rw c.from_residual.ensures
    (let step = tag_lengths-step c.args.message.now.tags c.loop-tag.place c.in-Some.tag.now c.in-Some.ensures in
    let short = c.in_err-left.ensures in
    let rest = c.loop-tag.invariant.rest in
    omega (arith, step, short, rest))

pub loop-tag-preserved : goal.loop-tag-preserved
loop-tag-preserved c =
    let step = tag_lengths-step c.args.message.now.tags c.loop-tag.place c.in-Some.tag.now c.in-Some.ensures in
    let less = c.in_ok-left.ensures in
    record {
      place = omega (arith, less, c.loop-tag.invariant.place);
      rest = omega (arith, step, less, c.loop-tag.invariant.rest);
    }

pub returns : goal.returns
returns c =
    let end = tag_lengths-end c.args.message.now.tags c.loop-tag.place c.in_default.ensures in
    let rest = c.loop-tag.invariant.rest in
    omega (arith, end, rest)
