use Rattle.sg_expand.proofs.OneRun.{one-outcome}
use Rattle.sg_expand.proofs.laws.expansions_are_one.Goals as goal

pub returns : goal.returns
returns c = one-outcome
