use Rattle.sg_template.proofs.Inner.{all_inner, no_dot}
use Rattle.sg_template.proofs.laws.texts_are_names.Goals as goal

pub returns-clause-inner : goal.returns-clause-inner
returns-clause-inner c = all_inner

pub returns-clause-front : goal.returns-clause-front
returns-clause-front c = no_dot
