use Rattle.std.proofs.Common.{arith}
use Rattle.sg_machine.specs.Turns.{stored_run}
use Rattle.sg_list.proofs.ListLemmas.{change-set}
use Rattle.sg_machine.proofs.steps.store.Goals as goal

pub returns : goal.returns
returns c =
    let e = change-set c.args.run.now.sources c.args.i (stored_run c.args.w) c.at_mut.result.now c.at_mut.ensures.value in
    grind (arith, e)
