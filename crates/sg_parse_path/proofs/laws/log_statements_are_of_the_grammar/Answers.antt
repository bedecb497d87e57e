use Rattle.sg_parse_path.proofs.PathLaws.{log-sound, log-again}
use Rattle.sg_parse_path.proofs.laws.log_statements_are_of_the_grammar.Goals as goal

pub returns-clause-read : goal.returns-clause-read
returns-clause-read c = λ depth s r x e. log-sound depth s (x, r) e

pub returns-clause-again : goal.returns-clause-again
returns-clause-again c = λ depth s r x t. log-again depth s r x t
