use Rattle.sg_laws.proofs.TakenLemmas.{settles-taken}
use Rattle.sg_laws.proofs.fronts.settles_are_taken.Goals as goal

pub returns : goal.returns
returns c = settles-taken
