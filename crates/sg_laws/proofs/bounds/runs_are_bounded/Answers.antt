use Rattle.sg_laws.proofs.BoundRunLemmas.{runs-bounded}
use Rattle.sg_serve.specs.Exits.{way_of}
use Rattle.sg_laws.proofs.bounds.runs_are_bounded.Goals as goal

pub returns : goal.returns
returns g c = runs-bounded g.W.Feed.Inlet.state (way_of g.W.Drain.Outlet.state g.W.Paths.Opener.state g.W.Store.Disk.state) g.R.Router.offers g.R.Router.inlets g.R.Router.dests
