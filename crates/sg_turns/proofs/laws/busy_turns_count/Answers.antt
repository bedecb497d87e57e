use Rattle.sg_turns.proofs.BoundLemmas.{dest-bounded}
use Rattle.sg_turns.proofs.laws.busy_turns_count.Goals as goal

pub returns : goal.returns
returns c = dest-bounded
