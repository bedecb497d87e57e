use Rattle.std.proofs.Common.{◌≡◌, take}
use Rattle.std.specs.List.{flat_map}
use Rattle.sg_fault.specs.Faults.{least}
use Rattle.sg_values.specs.Expressions.{expression_faults}
use Rattle.sg_values.proofs.expression.+expression.Given as goal

abbrev pub invariant-terms_fault-loop-term : goal.invariant-terms_fault-loop-term
invariant-terms_fault-loop-term l = l.first ≡ least (flat_map expression_faults (take l.term-index l.terms))
