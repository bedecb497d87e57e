use Rattle.sg_parse_expr.proofs.ExprLaws.{expr-sound, expr-again}
use Rattle.sg_parse_expr.proofs.laws.expressions_are_of_the_grammar.Goals as goal

pub returns-clause-read : goal.returns-clause-read
returns-clause-read c = λ depth s r x e. expr-sound depth s (x, r) e

pub returns-clause-again : goal.returns-clause-again
returns-clause-again c = λ depth s r x t stops. expr-again depth s r x t stops
