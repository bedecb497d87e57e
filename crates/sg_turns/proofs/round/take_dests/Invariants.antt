use Rattle.std.proofs.Common.{◌≡◌, ◌≤◌, ◌+◌}
use Rattle.std.specs.Prelude.{◌*◌}
use Rattle.sg_counter.specs.Exchanges.{OfDest}
use Rattle.sg_turns.specs.Actors.{DestTakes}
use Rattle.sg_turns.specs.Rounds.{TookSome}
use Rattle.sg_turns.proofs.round.take_dests.Given as goal

abbrev pub invariant-loop-d : goal.invariant-loop-d
invariant-loop-d g l = record {
  took : TookSome (DestTakes g.O.Outlet.state) OfDest g.C.Counter.step l.initial.counter l.counter l.initial.dests.items l.dests.items l.d l.round;
  setup : g.C.Counter.setup l.counter ≡ g.C.Counter.setup l.initial.counter;
  left : g.C.Counter.left l.initial.counter ≤ g.C.Counter.left l.counter + 4 * l.d;
}
