use Rattle.sg_destination.proofs.Alike.{destinations_are_one}
use Rattle.sg_destination.proofs.laws.destinations_are_one.Goals as goal

pub returns : goal.returns
returns c = destinations_are_one
