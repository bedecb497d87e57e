use Rattle.std.proofs.Common.{◌≡◌, map, take}
use Rattle.sg_lower.specs.Expressions.{expression}
use Rattle.sg_lower.proofs.expression.+expression.Given as goal

abbrev pub invariant-lower_all-loop-term : goal.invariant-lower_all-loop-term
invariant-lower_all-loop-term l = l.all ≡ map (expression l.names) (take l.term-index l.terms)
