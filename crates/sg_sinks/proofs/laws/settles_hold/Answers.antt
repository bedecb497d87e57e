use Rattle.sg_sinks.proofs.SettleSteps.{settling}
use Rattle.sg_sinks.proofs.laws.settles_hold.Goals as goal

pub returns : goal.returns
returns c = settling
