use Rattle.sg_core.proofs.Faults.{tells-faults}
use Rattle.sg_core.proofs.laws.replies_tell_faults.Goals as goal

pub returns : goal.returns
returns c = tells-faults
