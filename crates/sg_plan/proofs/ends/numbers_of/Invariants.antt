use Rattle.std.proofs.Common.{◌≡◌, ◌++◌, drop}
use Rattle.sg_plan.specs.Owners.{owner_of, numbers_from, numbers_of}
use Rattle.sg_plan.proofs.ends.numbers_of.Given as goal

abbrev pub invariant-loop-number : goal.invariant-loop-number
invariant-loop-number l = numbers_of l.owners (owner_of l.reference) ≡ l.numbers.items ++ numbers_from l.number (drop l.number l.owners) (owner_of l.reference)
