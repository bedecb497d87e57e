use Rattle.std.proofs.Common.{◌∙◌, refl, map, arith}
use Rattle.sg_options.specs.Checks.{option_faults}
use Rattle.sg_options.proofs.Turns.{option_turn}
use Rattle.sg_options.proofs.check.first_bad_option.Goals as goal

pub loop-call-preserved : goal.loop-call-preserved
loop-call-preserved c =
    c.loop-call.invariant
    ∙ option_turn (option_faults (map (λ row. (row.0.now, row.1)) c.args.rows.now)) c.args.calls.now c.loop-call.call-index c.call-item.result c.loop-call.found c.option_fault.result (omega arith) c.call-item.is c.option_fault.ensures
    ∙ rw c.earlier-found.ensures refl
