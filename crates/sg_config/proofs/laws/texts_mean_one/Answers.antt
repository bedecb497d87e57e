use Rattle.sg_config.proofs.Faults.{one-fault, no-fault}
use Rattle.sg_config.proofs.Meanings.{one-config, meant-within}
use Rattle.sg_config.proofs.laws.texts_mean_one.Goals as goal

pub returns-clause-one : goal.returns-clause-one
returns-clause-one c = one-config c.texts_are_of_the_grammar.ensures.again c.plans_are_one.ensures

pub returns-clause-none : goal.returns-clause-none
returns-clause-none c = no-fault c.texts_are_of_the_grammar.ensures.again c.names_have_one_fault.ensures

pub returns-clause-one_fault : goal.returns-clause-one_fault
returns-clause-one_fault c = one-fault c.texts_are_of_the_grammar.ensures.again c.names_have_one_fault.ensures

pub returns-clause-within : goal.returns-clause-within
returns-clause-within c = meant-within c.plans_are_within.ensures
