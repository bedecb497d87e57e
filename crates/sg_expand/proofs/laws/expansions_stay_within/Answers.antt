use Rattle.sg_expand.proofs.Bounding.{stays-within}
use Rattle.sg_expand.proofs.laws.expansions_stay_within.Goals as goal

pub returns : goal.returns
returns c = stays-within
