use Rattle.std.proofs.Common.{arith, ◌<◌, ◌≤◌, length, min}
use Rattle.sg_hub.proofs.CountLemmas.{counts-next, counts-end}
use Rattle.sg_hub.proofs.passed.count_all.Goals as goal

pub loop-at-preserved : goal.loop-at-preserved
loop-at-preserved c =
    let dests = c.args.dests.now in
    let verdicts = c.args.verdicts.now in
    let in_dests : c.loop-at.at < length dests = omega arith in
    let in_verdicts : c.loop-at.at < length verdicts = omega arith in
    λ new rest. c.loop-at.invariant new (counts-next dests verdicts c.loop-at.offered.items c.count.new.offered.items new c.loop-at.at _ _ in_dests in_verdicts c.count.ensures.counts rest)

pub returns : goal.returns
returns c =
    let dests = c.args.dests.now in
    let verdicts = c.args.verdicts.now in
    let all : min (length dests) (length verdicts) ≤ c.loop-at.at = omega arith in
    c.loop-at.invariant c.loop-at.offered.items (counts-end dests verdicts c.loop-at.offered.items c.loop-at.at all)
