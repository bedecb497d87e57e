use Rattle.sg_parse_text.proofs.TextLaws.{text-sound, text-again}
use Rattle.sg_parse_text.proofs.laws.texts_are_of_the_grammar.Goals as goal

pub returns-clause-read : goal.returns-clause-read
returns-clause-read c = λ s xs e. text-sound s xs e

pub returns-clause-again : goal.returns-clause-again
returns-clause-again c = λ s xs t. text-again s xs t
