use Rattle.sg_laws.proofs.FailingLemmas.{failed-count}
use Rattle.sg_serve.specs.Exits.{way_of}
use Rattle.sg_laws.proofs.resting.failed_stores_count.Goals as goal

pub returns : goal.returns
returns g c = failed-count g.W.Feed.Inlet.state (way_of g.W.Drain.Outlet.state g.W.Paths.Opener.state g.W.Store.Disk.state) g.R.Router.offers g.R.Router.inlets g.R.Router.dests
