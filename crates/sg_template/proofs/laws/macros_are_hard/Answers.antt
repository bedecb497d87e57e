use Rattle.sg_template.proofs.Hard.{macro_of-is_hard}
use Rattle.sg_template.proofs.laws.macros_are_hard.Goals as goal

pub returns : goal.returns
returns c = macro_of-is_hard
