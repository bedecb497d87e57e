use Rattle.sg_laws.proofs.ItemRestLemmas.{reading-ends}
use Rattle.sg_laws.proofs.resuming.reading_ends.Goals as goal

pub returns : goal.returns
returns c = reading-ends
