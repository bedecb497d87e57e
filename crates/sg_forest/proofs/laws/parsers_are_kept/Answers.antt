use Rattle.sg_forest.proofs.KeepingParsers.{are-kept}
use Rattle.sg_forest.proofs.laws.parsers_are_kept.Goals as goal

pub returns : goal.returns
returns c = are-kept
