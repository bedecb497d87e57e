use Rattle.sg_machine.proofs.AckLemmas.{counts-mark}
use Rattle.sg_machine.proofs.laws.marks_hold.Goals as goal

pub returns : goal.returns
returns c = counts-mark
