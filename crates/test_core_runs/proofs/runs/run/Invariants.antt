use Rattle.std.proofs.Common.{◌≤◌, ◌+◌, ◌*◌}
use Rattle.test_core_runs.specs.Cores.{IsTried, IsSomewhere}
use Rattle.test_core_runs.proofs.runs.run.Given as goal

abbrev pub invariant-loop-k : goal.invariant-loop-k
invariant-loop-k l = record {
  tried : IsTried l.core;
  at : IsSomewhere l.core;
  calls : l.core.calls ≤ l.initial.core.calls + 2 * l.k;
}
