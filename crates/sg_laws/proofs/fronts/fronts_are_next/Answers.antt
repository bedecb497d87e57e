use Rattle.sg_laws.proofs.SeenLemmas.{fronts-next}
use Rattle.sg_laws.proofs.fronts.fronts_are_next.Goals as goal

pub returns : goal.returns
returns c = fronts-next
