use Rattle.sg_run.proofs.AddingLemmas.{config-runs-add-up}
use Rattle.sg_serve.specs.Exits.{way_of}
use Rattle.sg_run.proofs.adding.config_runs_add_up.Goals as goal

pub returns : goal.returns
returns g c = config-runs-add-up g.W.Feed.Inlet.state (way_of g.W.Drain.Outlet.state g.W.Paths.Opener.state g.W.Store.Disk.state) c.texts_mean_one.ensures.within c.plan_runs_add_up.ensures
