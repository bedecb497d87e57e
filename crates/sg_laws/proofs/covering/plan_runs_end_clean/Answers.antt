use Rattle.sg_laws.proofs.CleanLemmas.{ends-clean}
use Rattle.sg_serve.specs.Exits.{way_of}
use Rattle.sg_laws.proofs.covering.plan_runs_end_clean.Goals as goal

pub returns : goal.returns
returns g c = ends-clean g.W.Feed.Inlet.state (way_of g.W.Drain.Outlet.state g.W.Paths.Opener.state g.W.Store.Disk.state) g.R.Router.offers g.R.Router.inlets g.R.Router.dests c.lists_are_one.ensures c.clean_runs_end.ensures
