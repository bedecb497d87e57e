use Rattle.sg_crew.proofs.TogetherLemmas.{reads-once, sends-once}
use Rattle.sg_crew.proofs.together.take_alone.Goals as goal

pub read_each-requires : goal.read_each-requires
read_each-requires g c = record { may = λ j x e. (c.requires.read j x e).0 }

pub send_each-requires : goal.send_each-requires
send_each-requires g c = record { may = λ j x e. (c.requires.send j x e).0 }

pub returns-clause-read : goal.returns-clause-read
returns-clause-read g c =
    reads-once g.I.Inlet.state g.R.Router.offers g.R.Router.inlets g.R.Router.dests c.args.hub.now c.args.sources.now.items c.requires.read c.read_each.new.workers.items c.read_each.ensures.read

pub returns-clause-sent : goal.returns-clause-sent
returns-clause-sent g c = sends-once g.O.Outlet.state c.args.hub.now c.args.dests.now.items c.requires.send c.send_each.new.workers.items c.send_each.ensures.sent
