use Rattle.sg_turns.proofs.FailingLemmas.{dest-fails}
use Rattle.sg_turns.proofs.laws.third_failures_count.Goals as goal

pub returns : goal.returns
returns c = dest-fails
