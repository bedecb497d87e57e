use Rattle.sg_run.proofs.AddingLemmas.{config-runs-take-once}
use Rattle.sg_serve.specs.Exits.{way_of}
use Rattle.sg_run.proofs.adding.config_runs_take_once.Goals as goal

pub returns : goal.returns
returns g c = config-runs-take-once g.W.Feed.Inlet.state (way_of g.W.Drain.Outlet.state g.W.Paths.Opener.state g.W.Store.Disk.state) c.texts_mean_one.ensures.within c.plan_runs_take_once.ensures
