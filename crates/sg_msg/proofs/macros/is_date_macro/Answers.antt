use Rattle.sg_msg.specs.Macros.{date_macros}
use Rattle.sg_msg.proofs.macros.is_date_macro.Goals as goal

-- the table is the definition's
pub returns : goal.returns
unfolding date_macros
returns c = c.is_listed.ensures
