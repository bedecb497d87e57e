use Rattle.std.proofs.Common.{◌≤◌}
use Rattle.test_core_runs.specs.Cores.{IsTried}
use Rattle.test_core_runs.proofs.images.find.Given as goal

abbrev pub invariant-loop-d : goal.invariant-loop-d
invariant-loop-d l = record {
  tried : IsTried l.core;
  calls : l.core.calls ≤ l.d;
}
