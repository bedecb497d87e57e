use Rattle.std.proofs.Common.{◌≡◌, ◌-◌}
use Rattle.sg_machine.specs.Turns.{move_turns}
use Rattle.sg_machine.proofs.moves.move_some.Given as goal

abbrev pub invariant-loop-k : goal.invariant-loop-k
invariant-loop-k l = move_turns (l.n - l._k) l.capacity l.d l.run ≡ move_turns l.n l.capacity l.d l.fn.run
