use Rattle.sg_sinks.proofs.MoveSteps.{moving}
use Rattle.sg_sinks.proofs.laws.moves_hold.Goals as goal

pub returns : goal.returns
returns c = moving
