use Rattle.sg_standing.proofs.More.{more-stands}
use Rattle.sg_standing.proofs.laws.more_stands.Goals as goal

pub returns : goal.returns
returns c = more-stands
