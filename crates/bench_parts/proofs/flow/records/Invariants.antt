use Rattle.std.proofs.Common.{◌≡◌, length}
use Rattle.sg_counter.specs.Bringing.{AllMayEnter}
use Rattle.bench_parts.proofs.flow.records.Given as goal

abbrev pub invariant-loop-k : goal.invariant-loop-k
invariant-loop-k l = record {
  each : AllMayEnter 1 l.records.items;
  count : length l.records.items ≡ l.k;
}
