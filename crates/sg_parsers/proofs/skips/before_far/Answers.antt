use Rattle.sg_parsers.proofs.RunLemmas.{found-place, found-none}
use Rattle.sg_parsers.proofs.skips.before_far.Goals as goal

pub returns-in-Some-clause-value : goal.returns-in-Some-clause-value
returns-in-Some-clause-value c = found-place _ _ _ c.in-Some.ensures

pub returns-in-None-clause-value : goal.returns-in-None-clause-value
returns-in-None-clause-value c = found-none _ _ c.in-None.ensures
