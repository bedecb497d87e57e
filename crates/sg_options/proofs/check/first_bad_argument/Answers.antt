use Rattle.std.proofs.Common.{◌∙◌, refl, map, arith}
use Rattle.sg_options.specs.Checks.{option_faults}
use Rattle.sg_options.proofs.Turns.{argument_turn}
use Rattle.sg_options.proofs.check.first_bad_argument.Goals as goal

pub loop-arg-preserved : goal.loop-arg-preserved
loop-arg-preserved c =
    c.loop-arg.invariant
    ∙ argument_turn (option_faults (map (λ row. (row.0.now, row.1)) c.args.rows.now)) c.args.args.now c.loop-arg.arg-index c.arg-item.result c.loop-arg.found c.argument_fault.result (omega arith) c.arg-item.is c.argument_fault.ensures
    ∙ rw c.earlier-found.ensures refl
