use Rattle.std.proofs.Common.{◌<◌, length}
use Rattle.sg_actor.specs.Outages.{HasFailures}
use Rattle.test_core.proofs.dests.take_turns.Given as goal

abbrev pub invariant-loop-turn : goal.invariant-loop-turn
invariant-loop-turn g l = record {
  dest : l.actor.spec.dest < length l.core.setup.dests;
  failures : HasFailures l.actor.outage (g.O.Outlet.state l.actor.outlet);
}
