use Rattle.sg_laws.proofs.DueLemmas.{drops-due}
use Rattle.sg_laws.proofs.texts.drops_are_due.Goals as goal

pub returns : goal.returns
returns c = drops-due
