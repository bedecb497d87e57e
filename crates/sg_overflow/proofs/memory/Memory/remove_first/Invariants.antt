use Rattle.std.proofs.Common.{◌≡◌, drop}
use Rattle.sg_overflow.proofs.memory.Memory.remove_first.Given as goal

abbrev pub invariant-loop-turn : goal.invariant-loop-turn
invariant-loop-turn l = l.self ≡ drop l._turn l.initial.self
