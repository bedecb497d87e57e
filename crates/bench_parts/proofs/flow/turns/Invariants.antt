use Rattle.std.proofs.Common.{◌≤◌, ◌*◌}
use Rattle.bench_parts.specs.Cores.{IsMeasured}
use Rattle.bench_parts.proofs.flow.turns.Given as goal

abbrev pub invariant-loop-k : goal.invariant-loop-k
invariant-loop-k g l = record {
  measured : IsMeasured l.core;
  calls : l.core.calls ≤ 2 * l.k;
}
