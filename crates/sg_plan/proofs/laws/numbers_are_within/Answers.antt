use Rattle.sg_plan.proofs.Numbers.{are-within}
use Rattle.sg_plan.proofs.laws.numbers_are_within.Goals as goal

pub returns : goal.returns
returns c = are-within
