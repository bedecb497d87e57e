use Rattle.std.proofs.Common.{◌≤◌, ◌+◌}
use Rattle.sg_standing.specs.States.{setup_of}
use Rattle.test_hub.specs.Cores.{IsTriedSetup}
use Rattle.test_hub.proofs.seats.at_core.Given as goal

abbrev pub invariant-loop-part : goal.invariant-loop-part
invariant-loop-part g l = record {
  tried : IsTriedSetup (setup_of l.core);
  calls : l.core.calls + l.spare ≤ 1000;
}
