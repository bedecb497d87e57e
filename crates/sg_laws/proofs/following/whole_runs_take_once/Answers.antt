use Rattle.sg_laws.specs.Adding.{offers_in}
use Rattle.sg_laws.proofs.OnceLemmas.{take-once}
use Rattle.sg_laws.proofs.following.whole_runs_take_once.Goals as goal

pub returns : goal.returns
returns g c setup = take-once setup (offers_in g.R.Router.offers c.args.routers.now)
