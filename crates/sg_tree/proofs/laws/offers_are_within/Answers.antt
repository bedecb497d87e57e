use Rattle.sg_tree.proofs.Keeping.{are-within, is-inherited}
use Rattle.sg_tree.proofs.Bounding.{are-bounded}
use Rattle.sg_tree.proofs.laws.offers_are_within.Goals as goal

pub returns-clause-within : goal.returns-clause-within
returns-clause-within c = are-within

pub returns-clause-flow : goal.returns-clause-flow
returns-clause-flow c = is-inherited

pub returns-clause-bound : goal.returns-clause-bound
returns-clause-bound c = are-bounded
