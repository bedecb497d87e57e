use Rattle.std.proofs.Common.{◌∙◌, sym, ap, arith, set}
use Rattle.sg_machine.specs.Turns.{acked_one}
use Rattle.sg_list.proofs.ListLemmas.{change-set, change-none, slice_get-none}
use Rattle.sg_machine.proofs.sources.ack_record.Goals as goal

pub returns-then-place-len : goal.returns-then-place-len
returns-then-place-len c = λ flow number.
    let e = change-set c.args.sources.now c.args.slip.now.inlet (acked_one c.args.number) c.at_mut.result.now c.at_mut.ensures.value in
    rw (flow, number) (ap (set c.args.sources.now c.args.slip.now.inlet) c.take_ack.ensures ∙ sym e)

pub returns-else-place-len : goal.returns-else-place-len
returns-else-place-len c = λ flow number.
    rw (flow, number) (sym (change-none c.args.sources.now c.args.slip.now.inlet (acked_one c.args.number) (slice_get-none c.args.sources.now c.args.slip.now.inlet (omega arith))))
