use Rattle.sg_laws.specs.Adding.{offers_in}
use Rattle.sg_laws.proofs.OnceLemmas.{fresh-runs}
use Rattle.sg_laws.proofs.following.fresh_runs_cover.Goals as goal

pub returns : goal.returns
returns g c setup = fresh-runs setup (offers_in g.R.Router.offers c.args.routers.now)
