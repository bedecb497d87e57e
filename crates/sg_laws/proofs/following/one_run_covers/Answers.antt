use Rattle.sg_laws.specs.Adding.{offers_in}
use Rattle.sg_laws.proofs.CoverLemmas.{covers-run}
use Rattle.sg_laws.proofs.following.one_run_covers.Goals as goal

pub returns : goal.returns
returns g c setup = covers-run setup (offers_in g.R.Router.offers c.args.routers.now)
