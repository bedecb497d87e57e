use Rattle.std.proofs.Common.{◌≡◌, ◌-◌, length, take}
use Rattle.sg_overflow.proofs.memory.Memory.truncate.Given as goal

abbrev pub invariant-loop-turn : goal.invariant-loop-turn
invariant-loop-turn l = l.self ≡ take (length l.initial.self - l._turn) l.initial.self
