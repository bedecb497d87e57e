use Rattle.std.proofs.Common.{rules}
use Rattle.sg_msg.specs.Macros.{is_hard}
use Rattle.sg_msg.proofs.macros.is_hard.Goals as goal

pub returns-then-is_other_macro : goal.returns-then-is_other_macro
unfolding is_hard
returns-then-is_other_macro c = search rules

pub returns-else-is_other_macro : goal.returns-else-is_other_macro
unfolding is_hard
returns-else-is_other_macro c = search rules
