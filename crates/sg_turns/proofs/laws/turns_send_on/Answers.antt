use Rattle.sg_turns.proofs.LawLemmas.{send-on}
use Rattle.sg_turns.proofs.laws.turns_send_on.Goals as goal

pub returns : goal.returns
returns c = send-on
