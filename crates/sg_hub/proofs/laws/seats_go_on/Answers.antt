use Rattle.sg_hub.proofs.Seated.{goes-on}
use Rattle.sg_hub.proofs.laws.seats_go_on.Goals as goal

pub returns : goal.returns
returns c = goes-on
