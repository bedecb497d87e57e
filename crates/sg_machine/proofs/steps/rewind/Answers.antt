use Rattle.std.proofs.Common.{arith}
use Rattle.sg_machine.specs.Turns.{rewound_run}
use Rattle.sg_list.proofs.ListLemmas.{change-set}
use Rattle.sg_machine.proofs.steps.rewind.Goals as goal

pub returns : goal.returns
returns c =
    let e = change-set c.args.run.now.sources c.args.i rewound_run c.at_mut-source.result.now c.at_mut-source.ensures.value in
    grind (arith, e)
