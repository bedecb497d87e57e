use Rattle.sg_macro.specs.Macros.{macros, macro_of}
use Rattle.sg_macro.proofs.macros.macro_of.Goals as goal

-- the table is the definition's
pub returns : goal.returns
unfolding macros macro_of
returns c = c.row_of.ensures
