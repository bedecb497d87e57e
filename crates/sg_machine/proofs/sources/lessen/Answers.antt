use Rattle.std.proofs.Common.{sym, arith}
use Rattle.sg_window.specs.Window.{one_less}
use Rattle.sg_list.proofs.ListLemmas.{change-set, change-none, slice_get-none}
use Rattle.sg_machine.proofs.sources.lessen.Goals as goal

pub returns-then-number-len : goal.returns-then-number-len
returns-then-number-len c =
    let e = change-set c.args.records.now c.args.number one_less c.at_mut-waiting.result.now c.at_mut-waiting.ensures.value in
    grind (arith, e)

pub returns-else-number-len : goal.returns-else-number-len
returns-else-number-len c = sym (change-none c.args.records.now c.args.number one_less (slice_get-none c.args.records.now c.args.number (omega arith)))
