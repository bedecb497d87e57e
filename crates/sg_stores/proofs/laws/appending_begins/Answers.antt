use Rattle.sg_stores.proofs.StageLemmas.{begins}
use Rattle.sg_stores.proofs.laws.appending_begins.Goals as goal

pub returns : goal.returns
returns c = begins
