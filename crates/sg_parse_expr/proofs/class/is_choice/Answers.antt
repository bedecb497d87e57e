use Rattle.sg_parse_expr.specs.Classes.{words_of}
use Rattle.sg_parse_expr.proofs.class.is_choice.Goals as goal

pub returns-in-SourceFlag : goal.returns-in-SourceFlag
unfolding words_of
returns-in-SourceFlag c = rw c.in-SourceFlag.is c.is_one_of-in-SourceFlag.ensures

pub returns-in-StampForm : goal.returns-in-StampForm
unfolding words_of
returns-in-StampForm c = rw c.in-StampForm.is c.is_one_of-in-StampForm.ensures
