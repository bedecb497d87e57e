use Rattle.sg_laws.proofs.ItemRestLemmas.{pieces-grow}
use Rattle.sg_laws.proofs.resuming.pieces_grow.Goals as goal

pub returns : goal.returns
returns c = pieces-grow
