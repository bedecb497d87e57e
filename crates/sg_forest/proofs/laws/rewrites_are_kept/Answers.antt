use Rattle.sg_forest.proofs.Keeping.{are-kept}
use Rattle.sg_forest.proofs.laws.rewrites_are_kept.Goals as goal

pub returns : goal.returns
returns c = are-kept
