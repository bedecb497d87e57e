use Rattle.std.proofs.Common.{◌∙◌, ap}
use Rattle.sg_source.specs.Inlets.{plan_of}
use Rattle.sg_plan.specs.Parts.{name_in}
use Rattle.sg_plan.proofs.Slots.{slots-more}
use Rattle.sg_plan.proofs.adding.add_inlets.Goals as goal

pub loop-slot-preserved : goal.loop-slot-preserved
loop-slot-preserved c = slots-more (λ slot. plan_of c.args.source.now slot c.args.number (name_in c.args.owner.now)) c.args.inlets.now.items c.loop-slot.inlets.items c.push.new.self.items c.in_ok-plan.field-0 c.loop-slot.slot c.loop-slot.invariant c.in_ok-push.ensures.items (c.in_ok-plan.ensures ∙ ap (plan_of c.args.source.now c.loop-slot.slot c.args.number) c.name_in.ensures)
