use Rattle.std.proofs.Common.{◌∙◌, List, ◌++◌, sym, ap, subst}
use Rattle.sg_visit.specs.Leaves.{leaves_of}
use Rattle.sg_plan.specs.declared.driver.OwnedDriver.{OwnedDriver}
use Rattle.sg_plan.specs.Owned.{owned_drivers}
use Rattle.sg_plan.specs.Reading.{AreDriversRead}
use Rattle.sg_plan.proofs.Joining.{reads-visited}
use Rattle.sg_plan.proofs.drivers.read_drivers.Goals as goal

pub returns : goal.returns
returns c =
    let all = reads-visited c.args.globals.now (leaves_of c.args.statements.now) _ _ c.in_ok-visit_statements.ensures in
    subst (AreDriversRead c.args.globals.now (owned_drivers c.args.statements.now)) (sym (all.added ∙ ap (λ (p : List OwnedDriver). p ++ all.more) c.new-found.ensures.items)) all.read
