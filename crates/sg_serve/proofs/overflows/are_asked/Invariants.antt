use Rattle.std.proofs.Common.{◌≡◌, map, drop, is_some}
use Rattle.sg_overflow.specs.Buffered.{held_state}
use Rattle.sg_serve.proofs.overflows.are_asked.Given as goal

abbrev pub invariant-loop-d : goal.invariant-loop-d
invariant-loop-d g l = drop l.d l.asked ≡ map (λ way. is_some (held_state g.D.Disk.state way)) (drop l.d l.outlets) → l.asked ≡ map (λ way. is_some (held_state g.D.Disk.state way)) l.outlets
