use Rattle.sg_visit.specs.Leaves.{element_leaves}
use Rattle.sg_visit.proofs.Leasts.{least-visited}
use Rattle.sg_resolve.specs.Places.{leaf_faults}
use Rattle.sg_resolve.proofs.place.element_fault.Goals as goal

pub returns : goal.returns
returns c = least-visited leaf_faults (element_leaves c.args.element.now) _ c.in-Ok.ensures
