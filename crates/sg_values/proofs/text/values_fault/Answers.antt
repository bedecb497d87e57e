use Rattle.sg_values.specs.Texts.{leaf_faults, values_faults}
use Rattle.sg_visit.specs.Leaves.{leaves_of}
use Rattle.sg_visit.proofs.Leasts.{least-visited}
use Rattle.sg_values.proofs.text.values_fault.Goals as goal

pub returns : goal.returns
unfolding values_faults
returns c = least-visited leaf_faults (leaves_of c.args.statements.now) _ c.in-Ok.ensures
