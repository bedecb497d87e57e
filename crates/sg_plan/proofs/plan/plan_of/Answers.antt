use Rattle.std.proofs.Common.{subst}
use Rattle.sg_plan.specs.declared.globals.Globals.{Globals}
use Rattle.sg_plan.specs.Owned.{owned_drivers}
use Rattle.sg_plan.specs.Reading.{AreDriversRead}
use Rattle.sg_plan.proofs.Within.{few-drivers}
use Rattle.sg_plan.proofs.plan.plan_of.Goals as goal

pub with_drivers-requires : goal.with_drivers-requires
with_drivers-requires c =
    few-drivers c.args.statements.now c.in_ok-drivers.drivers.items c.requires
    (subst (λ (g : Globals). AreDriversRead g (owned_drivers c.args.statements.now) c.in_ok-drivers.drivers.items) c.in_ok-globals.ensures.value c.in_ok-drivers.ensures)
