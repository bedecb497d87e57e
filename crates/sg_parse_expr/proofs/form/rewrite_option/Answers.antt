use Rattle.sg_parse_expr.specs.Forms.{rewrite_options}
use Rattle.sg_parse_expr.proofs.form.rewrite_option.Goals as goal

pub returns-in-Set : goal.returns-in-Set
unfolding rewrite_options
returns-in-Set c = rw c.in-Set.is c.row_of.ensures

pub returns-in-Subst : goal.returns-in-Subst
unfolding rewrite_options
returns-in-Subst c = rw c.in-Subst.is c.row_of-in-Subst.ensures

pub returns-in-Group : goal.returns-in-Group
unfolding rewrite_options
returns-in-Group c = rw c.in-Group.is c.row_of-in-Group.ensures

pub returns-in-Tag : goal.returns-in-Tag
unfolding rewrite_options
returns-in-Tag c = rw c.in-Tag.is c.row_of-in-Tag.ensures
