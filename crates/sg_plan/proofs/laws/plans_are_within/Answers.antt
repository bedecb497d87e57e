use Rattle.sg_plan.proofs.Within.{plans_are_within}
use Rattle.sg_plan.proofs.laws.plans_are_within.Goals as goal

pub returns : goal.returns
returns c = plans_are_within
