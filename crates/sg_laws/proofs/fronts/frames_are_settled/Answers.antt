use Rattle.sg_laws.proofs.SeenLemmas.{frames-settled}
use Rattle.sg_laws.proofs.fronts.frames_are_settled.Goals as goal

pub returns : goal.returns
returns c = frames-settled
