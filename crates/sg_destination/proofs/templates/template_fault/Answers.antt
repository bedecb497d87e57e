use Rattle.std.proofs.Common.{◌∙◌, refl, arith}
use Rattle.sg_options.proofs.Turns.{argument_turn}
use Rattle.sg_destination.specs.Templates.{template_option_faults}
use Rattle.sg_destination.proofs.templates.template_fault.Goals as goal

pub loop-arg-preserved : goal.loop-arg-preserved
loop-arg-preserved g c =
    c.loop-arg.invariant
    ∙ argument_turn (template_option_faults (g.T.Templates.texts c.args.templates.now)) c.args.args.now c.loop-arg.arg-index c.arg-item.result c.loop-arg.found c.in_ok-fault.fault (omega arith) c.arg-item.is c.in_ok-fault.ensures
    ∙ rw c.earlier-found.ensures refl
