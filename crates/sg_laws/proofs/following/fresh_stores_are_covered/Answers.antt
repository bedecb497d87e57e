use Rattle.sg_laws.specs.Adding.{offers_in}
use Rattle.sg_laws.proofs.StopLemmas.{fresh-covered}
use Rattle.sg_laws.proofs.following.fresh_stores_are_covered.Goals as goal

pub returns : goal.returns
returns g c setup = fresh-covered setup (offers_in g.R.Router.offers c.args.routers.now)
