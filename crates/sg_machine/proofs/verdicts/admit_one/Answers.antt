use Rattle.std.proofs.Common.{◌∙◌, sym, ap, arith, set}
use Rattle.sg_machine.specs.Turns.{offered_run}
use Rattle.sg_list.proofs.ListLemmas.{change-set}
use Rattle.sg_machine.proofs.DropLemmas.{most_run-get, most_run-change}
use Rattle.sg_machine.proofs.verdicts.admit_one.Goals as goal

pub take_one-requires-clause-full : goal.take_one-requires-clause-full
take_one-requires-clause-full c = omega (arith, most_run-get c.args.dests.now c.args.offer.now.dest c.at_mut.result.now c.at_mut.ensures.value)

pub take_one-requires-clause-disk : goal.take_one-requires-clause-disk
take_one-requires-clause-disk c = omega (arith, most_run-get c.args.dests.now c.args.offer.now.dest c.at_mut.result.now c.at_mut.ensures.value)

pub returns-clause-kept : goal.returns-clause-kept
returns-clause-kept c = λ _.
    ap (set c.args.dests.now c.args.offer.now.dest) c.in_ok-take_one.ensures
    ∙ sym (change-set c.args.dests.now c.args.offer.now.dest (offered_run c.args.inlet c.args.number c.args.offer.now c.args.verdict) c.at_mut.result.now c.at_mut.ensures.value)

pub returns-clause-dropped : goal.returns-clause-dropped
returns-clause-dropped c = λ h.
    rw (returns-clause-kept c h) (most_run-change c.args.inlet c.args.number c.args.offer.now c.args.verdict c.args.dests.now c.args.offer.now.dest)
