use Rattle.std.proofs.Common.{sym, subst}
use Rattle.sg_crew.specs.Crews.{Every}
use Rattle.sg_crew.proofs.TogetherLemmas.{MayStartRead, MayStartSend}
use Rattle.sg_crew.proofs.together.take_turns.Goals as goal

pub take_alone-requires-in-None-clause-read : goal.take_alone-requires-in-None-clause-read
take_alone-requires-in-None-clause-read g c =
    subst (Every (MayStartRead g.I.Inlet.state g.R.Router.offers g.R.Router.inlets g.R.Router.dests c.args.hub.now)) (sym c.in-None.ensures.read) c.requires.read

pub take_alone-requires-in-None-clause-send : goal.take_alone-requires-in-None-clause-send
take_alone-requires-in-None-clause-send g c = subst (Every (MayStartSend g.O.Outlet.state c.args.hub.now)) (sym c.in-None.ensures.sent) c.requires.send
