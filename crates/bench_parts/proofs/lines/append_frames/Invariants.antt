use Rattle.std.proofs.Common.{◌≡◌}
use Rattle.sg_frame.specs.Framing.{fed}
use Rattle.bench_parts.proofs.lines.append_frames.Given as goal

abbrev pub invariant-loop-count : goal.invariant-loop-count
invariant-loop-count l = fed l.framer ≡ fed l.initial.framer
