use Rattle.sg_plan.proofs.Alike.{plans_are_one}
use Rattle.sg_plan.proofs.laws.plans_are_one.Goals as goal

pub returns : goal.returns
returns c = plans_are_one
