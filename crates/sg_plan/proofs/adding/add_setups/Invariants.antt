use Rattle.std.proofs.Common.{◌≡◌, ◌++◌, replicate}
use Rattle.sg_plan.proofs.adding.add_setups.Given as goal

abbrev pub invariant-loop-turn : goal.invariant-loop-turn
invariant-loop-turn l = l.setups ≡ l.initial.setups ++ replicate l._turn l.fn.setup
