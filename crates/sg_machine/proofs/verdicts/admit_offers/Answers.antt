use Rattle.sg_machine.proofs.DropLemmas.{judged_runs-lengths}
use Rattle.sg_machine.proofs.verdicts.admit_offers.Goals as goal

pub returns-then-offers-verdicts-clause-judged : goal.returns-then-offers-verdicts-clause-judged
returns-then-offers-verdicts-clause-judged c = judged_runs-lengths c.args.inlet c.args.number c.args.failing.now c.args.dests.now c.args.failed.now c.args.offers.now c.args.verdicts.now c.if-offers-verdicts.true
