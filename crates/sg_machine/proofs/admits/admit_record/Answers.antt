use Rattle.std.proofs.Common.{◌≡◌, ◌∙◌, sym, arith, true}
use Rattle.sg_machine.specs.Turns.{begun_one, begun_in}
use Rattle.sg_list.proofs.ListLemmas.{change-set}
use Rattle.sg_machine.proofs.TurnLemmas.{judged-length, record-answer}
use Rattle.sg_machine.proofs.admits.admit_record.Goals as goal

pub owed_by-left-requires-clause-same : goal.owed_by-left-requires-clause-same
owed_by-left-requires-clause-same c =
    judged-length c.args.i c.len-number.result c.args.failing.now c.args.run.now.dests c.args.run.now.failed c.as_slice-offers.result.now c.args.verdicts.now c.admit_offers.new.failed
    (rw c.if-not-branch.false at c.in_ok-admit_offers.ensures.judged)

pub returns-clause-turn : goal.returns-clause-turn
returns-clause-turn c =
    let run = c.args.run.now in
    let number : begun_in run.sources c.args.i ≡ c.len-number.result = rw c.at.ensures (sym c.len-number.ensures) in
    let offers = c.as_slice-offers.ensures in
    let judged = rw (c.if-not-branch.false, offers) at c.in_ok-admit_offers.ensures.judged in
    let answer = record-answer c.args.i c.args.failing.now run c.args.admission.now c.args.verdicts.now c.len-number.result true c.admit_offers.new.failed number judged in
    let e = change-set run.sources c.args.i (begun_one c.args.admission.now.end c.owed_by-left.result) c.at_mut.result.now c.at_mut.ensures.value in
    let kept = c.in_ok-admit_offers.ensures.kept (cc) in
    let left = c.owed_by-left.ensures in
    let begun = c.in_ok-begin.ensures in
    answer ∙ grind (arith, e, kept, number, left, begun, offers)
