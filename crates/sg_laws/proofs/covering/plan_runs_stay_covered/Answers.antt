use Rattle.sg_laws.proofs.AllLemmas.{plan-runs-stay-covered}
use Rattle.sg_serve.specs.Exits.{way_of}
use Rattle.sg_laws.proofs.covering.plan_runs_stay_covered.Goals as goal

pub returns : goal.returns
returns g c =
    plan-runs-stay-covered g.W.Feed.Inlet.state (way_of g.W.Drain.Outlet.state g.W.Paths.Opener.state g.W.Store.Disk.state) g.R.Router.offers g.R.Router.inlets g.R.Router.dests
    (record { now = c.images_are_safe.ensures; between = c.images_between_are_safe.ensures }) c.lists_are_one.ensures c.clean_runs_end.ensures
