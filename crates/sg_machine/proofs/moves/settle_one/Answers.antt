use Rattle.std.proofs.Common.{refl, arith}
use Rattle.sg_machine.specs.Turns.{settled_run}
use Rattle.sg_list.proofs.ListLemmas.{change-set, change-none, slice_get-none}
use Rattle.sg_machine.proofs.moves.settle_one.Goals as goal

pub returns-then-d-len : goal.returns-then-d-len
returns-then-d-len c =
    let e = change-set c.args.run.now.dests c.args.d settled_run c.at_mut.result.now c.at_mut.ensures.value in
    let s = c.ack_settled.ensures in
    let f = c.settle_first.ensures in
    grind (arith, e, s, f, c.at.ensures)

pub returns-else-d-len : goal.returns-else-d-len
returns-else-d-len c =
    let none = slice_get-none c.args.run.now.dests c.args.d (omega arith) in
    rw (none, change-none c.args.run.now.dests c.args.d settled_run none) refl
