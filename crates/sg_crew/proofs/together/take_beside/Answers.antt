use Rattle.sg_crew.proofs.TogetherLemmas.{keeps-reads, keeps-sends}
use Rattle.sg_crew.proofs.together.take_beside.Goals as goal

pub take_kept-requires-clause-read : goal.take_kept-requires-clause-read
take_kept-requires-clause-read g c = λ κs lives. keeps-reads g.I.Inlet.state g.R.Router.offers g.R.Router.inlets g.R.Router.dests c.args.hub.now c.args.sources.now.items c.requires.read

pub take_kept-requires-clause-send : goal.take_kept-requires-clause-send
take_kept-requires-clause-send g c = λ κs lives. keeps-sends g.O.Outlet.state c.args.hub.now c.args.dests.now.items c.requires.send
