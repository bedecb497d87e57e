use Rattle.sg_laws.proofs.BoundTurnLemmas.{source-bounded}
use Rattle.sg_laws.proofs.bounds.sources_are_bounded.Goals as goal

pub returns : goal.returns
returns g c = source-bounded (g.R.Router.offers c.args.router.now)
