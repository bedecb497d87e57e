use Rattle.std.proofs.Common.{◌≡◌, ◌-◌}
use Rattle.sg_machine.specs.Turns.{settle_turns}
use Rattle.sg_machine.proofs.moves.settle_some.Given as goal

abbrev pub invariant-loop-k : goal.invariant-loop-k
invariant-loop-k l = settle_turns (l.n - l._k) l.d l.run ≡ settle_turns l.n l.d l.fn.run
