use Rattle.std.proofs.Common.{◌≡◌, ◌≤◌, ◌+◌}
use Rattle.std.specs.Prelude.{◌*◌}
use Rattle.sg_counter.specs.Exchanges.{OfSource}
use Rattle.sg_turns.specs.Actors.{SourceTakes}
use Rattle.sg_turns.specs.Rounds.{TookSome}
use Rattle.sg_turns.proofs.round.take_sources.Given as goal

abbrev pub invariant-loop-i : goal.invariant-loop-i
invariant-loop-i g l = record {
  took : TookSome (SourceTakes g.I.Inlet.state g.R.Router.offers g.R.Router.inlets g.R.Router.dests) OfSource g.C.Counter.step l.initial.counter l.counter l.initial.sources.items l.sources.items l.i l.round;
  setup : g.C.Counter.setup l.counter ≡ g.C.Counter.setup l.initial.counter;
  left : g.C.Counter.left l.initial.counter ≤ g.C.Counter.left l.counter + 4 * l.i;
}
