use Rattle.std.proofs.Common.{◌≡◌, map, take}
use Rattle.sg_serve.proofs.counts.bad_frames.Given as goal

abbrev pub invariant-loop-source : goal.invariant-loop-source
invariant-loop-source g l = l.counts ≡ map (λ a. a.bad_frames) (take l.source-index l.sources)
