use Rattle.sg_laws.proofs.RestLemmas.{rests}
use Rattle.sg_serve.specs.Exits.{way_of}
use Rattle.sg_laws.proofs.covering.plan_runs_rest.Goals as goal

pub returns : goal.returns
returns g c = rests g.W.Feed.Inlet.state (way_of g.W.Drain.Outlet.state g.W.Paths.Opener.state g.W.Store.Disk.state) g.R.Router.offers g.R.Router.inlets g.R.Router.dests c.lists_are_one.ensures
