use Rattle.sg_laws.proofs.ItemRestLemmas.{moments-free}
use Rattle.sg_laws.proofs.resuming.moments_are_free.Goals as goal

pub returns : goal.returns
returns c = moments-free
