use Rattle.sg_turns.proofs.LawLemmas.{dest-rests}
use Rattle.sg_turns.proofs.laws.dests_rest.Goals as goal

pub returns : goal.returns
returns c = dest-rests
