use Rattle.sg_actor.proofs.LawLemmas.{stays-whole}
use Rattle.sg_actor.proofs.laws.lines_are_whole.Goals as goal

pub returns : goal.returns
returns c = stays-whole
