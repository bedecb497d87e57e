use Rattle.sg_sinks.proofs.JudgeLemmas.{judging}
use Rattle.sg_sinks.proofs.laws.verdicts_hold.Goals as goal

pub returns : goal.returns
returns c = judging
