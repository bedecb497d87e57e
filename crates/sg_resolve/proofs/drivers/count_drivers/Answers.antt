use Rattle.std.proofs.Common.{◌∙◌, ap}
use Rattle.std.specs.List.{fold}
use Rattle.sg_visit.specs.Leaves.{leaves_of}
use Rattle.sg_resolve.specs.declared.driver.DriverCounts.{DriverCounts}
use Rattle.sg_resolve.specs.Drivers.{with_driver}
use Rattle.sg_resolve.specs.Ends.{leaf_drivers, drivers_of, counted}
use Rattle.sg_resolve.proofs.Counting.{folds-visited}
use Rattle.sg_resolve.proofs.drivers.count_drivers.Goals as goal

pub returns : goal.returns
unfolding counted
returns c =
    folds-visited (with_driver c.args.texts.now) leaf_drivers (leaves_of c.args.statements.now) _ _ c.in_ok-visit_statements.ensures
    ∙ ap (λ (count : DriverCounts). fold (with_driver c.args.texts.now) count (drivers_of c.args.statements.now)) c.no_drivers-count.ensures
