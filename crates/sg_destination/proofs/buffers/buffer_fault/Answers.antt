use Rattle.std.proofs.Common.{◌∙◌, refl, arith}
use Rattle.sg_options.proofs.Turns.{argument_turn}
use Rattle.sg_destination.specs.Buffers.{buffer_option_faults}
use Rattle.sg_destination.proofs.buffers.buffer_fault.Goals as goal

pub loop-arg-preserved : goal.loop-arg-preserved
loop-arg-preserved c =
    c.loop-arg.invariant
    ∙ argument_turn buffer_option_faults c.args.args.now c.loop-arg.arg-index c.arg-item.result c.loop-arg.found c.argument_fault.result (omega arith) c.arg-item.is c.argument_fault.ensures
    ∙ rw c.earlier-found.ensures refl
