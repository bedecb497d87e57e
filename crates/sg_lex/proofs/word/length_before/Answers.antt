use Rattle.sg_lex.proofs.Firsts.{length_before-found, length_before-none}
use Rattle.sg_lex.proofs.word.length_before.Goals as goal

pub returns-in-Some-clause-value : goal.returns-in-Some-clause-value
returns-in-Some-clause-value c = length_before-found _ _ _ c.in-Some.ensures

pub returns-in-None-clause-value : goal.returns-in-None-clause-value
returns-in-None-clause-value c = length_before-none _ _ c.in-None.ensures
