use Rattle.std.proofs.Common.{◌≡◌, length}
use Rattle.sg_frame.specs.Framing.{fed}
use Rattle.bench_parts.proofs.lines.convert.Given as goal

abbrev pub invariant-loop : goal.invariant-loop
invariant-loop l = (fed l.framer ≡ l.fed) × (length l.piece.items ≡ 16384)
