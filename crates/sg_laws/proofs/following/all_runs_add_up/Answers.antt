use Rattle.sg_laws.specs.Adding.{offers_in}
use Rattle.sg_laws.proofs.StopLemmas.{add-up}
use Rattle.sg_laws.proofs.following.all_runs_add_up.Goals as goal

pub returns : goal.returns
returns g c setup = add-up setup (offers_in g.R.Router.offers c.args.routers.now)
