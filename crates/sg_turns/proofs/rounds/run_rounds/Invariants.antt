use Rattle.std.proofs.Common.{◌≡◌, ◌≤◌, ◌+◌}
use Rattle.std.specs.Prelude.{◌*◌}
use Rattle.sg_turns.specs.Actors.{AreSources, AreDests, SourceTook, DestTook}
use Rattle.sg_turns.specs.Rounds.{TakesRounds}
use Rattle.sg_turns.proofs.rounds.run_rounds.Given as goal

abbrev pub invariant-loop-round : goal.invariant-loop-round
invariant-loop-round g l = record {
  runs : TakesRounds (SourceTook g.I.Inlet.state g.R.Router.offers g.R.Router.inlets g.R.Router.dests) (DestTook g.O.Outlet.state) g.C.Counter.step l.initial.counter l.counter l.initial.sources.items l.sources.items l.initial.dests.items l.dests.items l._round;
  sources : AreSources g.I.Inlet.state g.R.Router.inlets g.R.Router.dests (g.C.Counter.setup l.counter) l.sources.items;
  dests : AreDests g.O.Outlet.state (g.C.Counter.setup l.counter) l.dests.items;
  setup : g.C.Counter.setup l.counter ≡ g.C.Counter.setup l.initial.counter;
  left : g.C.Counter.left l.initial.counter ≤ g.C.Counter.left l.counter + 768 * l._round;
}
