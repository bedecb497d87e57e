use Rattle.sg_offers.proofs.BegunSteps.{begun-by}
use Rattle.sg_offers.proofs.laws.begun_hold.Goals as goal

pub returns : goal.returns
returns c = λ i next failing dests failed records vs z split j. begun-by i next failing dests failed records vs z split j
