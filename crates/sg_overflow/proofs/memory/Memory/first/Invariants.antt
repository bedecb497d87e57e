use Rattle.std.proofs.Common.{◌≡◌, take}
use Rattle.sg_overflow.proofs.memory.Memory.first.Given as goal

abbrev pub invariant-loop-place : goal.invariant-loop-place
invariant-loop-place l = l.frames ≡ take l.place l.self
