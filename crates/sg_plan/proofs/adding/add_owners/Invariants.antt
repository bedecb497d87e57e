use Rattle.std.proofs.Common.{◌≡◌, ◌++◌, replicate}
use Rattle.sg_plan.proofs.adding.add_owners.Given as goal

abbrev pub invariant-loop-turn : goal.invariant-loop-turn
invariant-loop-turn l = l.owners ≡ l.initial.owners ++ replicate l._turn l.owner
