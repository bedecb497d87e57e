use Rattle.std.proofs.Common.{arith}
use Rattle.sg_msg.proofs.LengthLemmas.{pair_lengths-step, pair_lengths-end}
use Rattle.sg_msg.proofs.length.less_pairs.Goals as goal

pub returns-in_err-left : goal.returns-in_err-left
returns-in_err-left c =
    rw c.from_residual.ensures
    (let step = pair_lengths-step c.args.message.now.pairs c.loop-name.place c.in-Some.name.now c.in-Some.value.now c.in-Some.ensures in
    let short = c.in_err-left.ensures in
    let rest = c.loop-name.invariant.rest in
    omega (arith, step, short, rest))

pub returns-in_err-left-2 : goal.returns-in_err-left-2
returns-in_err-left-2 c =
    rw c.from_residual-in_err-left-2.ensures
    (let step = pair_lengths-step c.args.message.now.pairs c.loop-name.place c.in-Some.name.now c.in-Some.value.now c.in-Some.ensures in
    let less = c.in_ok-left.ensures in
    let short = c.in_err-left-2.ensures in
    let rest = c.loop-name.invariant.rest in
    omega (arith, step, less, short, rest))

pub loop-name-preserved : goal.loop-name-preserved
loop-name-preserved c =
    let step = pair_lengths-step c.args.message.now.pairs c.loop-name.place c.in-Some.name.now c.in-Some.value.now c.in-Some.ensures in
    let less = c.in_ok-left.ensures in
    let less_value = c.in_ok-left-2.ensures in
    record {
      place = omega (arith, less, less_value, c.loop-name.invariant.place);
      rest = omega (arith, step, less, less_value, c.loop-name.invariant.rest);
    }

pub returns : goal.returns
returns c =
    let end = pair_lengths-end c.args.message.now.pairs c.loop-name.place c.in_default.ensures in
    let rest = c.loop-name.invariant.rest in
    omega (arith, end, rest)
