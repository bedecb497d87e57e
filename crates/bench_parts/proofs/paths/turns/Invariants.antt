use Rattle.std.proofs.Common.{◌<◌, length}
use Rattle.bench_parts.proofs.paths.turns.Given as goal

abbrev pub invariant-loop : goal.invariant-loop
invariant-loop l = 0 < length l.pipes.table.inlets.items
