use Rattle.std.specs.List.{flat_map}
use Rattle.sg_visit.specs.Leaves.{log_leaves}
use Rattle.sg_visit.proofs.Leasts.{least-visited}
use Rattle.sg_resolve.specs.Places.{leaf_faults}
use Rattle.sg_resolve.proofs.place.logs_fault.Goals as goal

pub returns : goal.returns
returns c = least-visited leaf_faults (flat_map log_leaves c.args.logs.now) _ c.in-Ok.ensures
