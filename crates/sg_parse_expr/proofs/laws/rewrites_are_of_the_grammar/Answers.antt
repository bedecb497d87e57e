use Rattle.sg_parse_expr.proofs.RewriteLaws.{rewrite-law}
use Rattle.sg_parse_expr.proofs.laws.rewrites_are_of_the_grammar.Goals as goal

pub returns-clause-read : goal.returns-clause-read
returns-clause-read c = λ depth s r x e. (rewrite-law depth).sound s (x, r) e

pub returns-clause-again : goal.returns-clause-again
returns-clause-again c = λ depth s r x t. (rewrite-law depth).again s r x t
