use Rattle.sg_sinks.proofs.TrialSteps.{trying}
use Rattle.sg_sinks.proofs.laws.trials_hold.Goals as goal

pub returns : goal.returns
returns c = trying
