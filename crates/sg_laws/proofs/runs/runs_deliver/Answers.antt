use Rattle.sg_laws.proofs.HeadlineLemmas.{deliver}
use Rattle.sg_serve.specs.Exits.{way_of}
use Rattle.sg_laws.proofs.runs.runs_deliver.Goals as goal

pub returns : goal.returns
returns g c =
    deliver g.W.Feed.Inlet.state (way_of g.W.Drain.Outlet.state g.W.Paths.Opener.state g.W.Store.Disk.state) g.R.Router.offers g.R.Router.inlets g.R.Router.dests
    (record { due = c.drops_are_due.ensures; now = c.images_are_safe.ensures; between = c.images_between_are_safe.ensures; under = c.texts_stand_under_their_paths.ensures })
