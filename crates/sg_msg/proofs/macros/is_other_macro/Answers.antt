use Rattle.sg_msg.specs.Macros.{other_macros}
use Rattle.sg_msg.proofs.macros.is_other_macro.Goals as goal

-- the table is the definition's
pub returns : goal.returns
unfolding other_macros
returns c = c.is_listed.ensures
