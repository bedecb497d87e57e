use Rattle.sg_laws.proofs.OwnEventLemmas.{takes-texts}
use Rattle.sg_laws.proofs.HeadLemmas.{texts-first}
use Rattle.sg_laws.proofs.texts.texts_are_taken.Goals as goal

pub returns-clause-events : goal.returns-clause-events
returns-clause-events g c = takes-texts (g.R.Router.offers c.args.router.now)

pub returns-clause-run : goal.returns-clause-run
returns-clause-run g c = texts-first (g.R.Router.offers c.args.router.now)
