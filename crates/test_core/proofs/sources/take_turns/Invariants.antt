use Rattle.sg_actor.specs.Sources.{source, IsReady}
use Rattle.sg_actor.specs.SourceTurns.{FitsSource}
use Rattle.test_core.proofs.sources.take_turns.Given as goal

abbrev pub invariant-loop-turn : goal.invariant-loop-turn
invariant-loop-turn g l = record {
  fits : FitsSource l.core.setup l.actor.spec (g.R.Router.inlets l.actor.router) (g.R.Router.dests l.actor.router);
  ready : IsReady (g.R.Router.dests l.actor.router) l.actor.spec (source (g.I.Inlet.state l.actor.inlet) l.actor.reader l.actor.buffer.items);
}
