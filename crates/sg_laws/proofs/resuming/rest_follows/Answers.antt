use Rattle.sg_laws.proofs.ItemRestLemmas.{rest-follows}
use Rattle.sg_laws.proofs.resuming.rest_follows.Goals as goal

pub returns : goal.returns
returns c = rest-follows
