use Rattle.std.proofs.Common.{arith}
use Rattle.sg_machine.specs.Turns.{moved_run}
use Rattle.sg_list.proofs.ListLemmas.{change-set}
use Rattle.sg_machine.proofs.moves.move_one.Goals as goal

pub returns-clause-moved : goal.returns-clause-moved
returns-clause-moved c = λ ok.
    let e = change-set c.args.run.now.dests c.args.d moved_run c.at_mut.result.now c.at_mut.ensures.value in
    let s = c.ack_at.ensures in
    let f = c.move_first.ensures.moved ok in
    grind (arith, e, s, f, c.at-dest.ensures)
