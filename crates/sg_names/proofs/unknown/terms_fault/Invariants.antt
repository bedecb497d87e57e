use Rattle.std.proofs.Common.{◌≡◌, take}
use Rattle.std.specs.List.{flat_map}
use Rattle.sg_fault.specs.Faults.{least}
use Rattle.sg_names.specs.Unknown.{term_faults}
use Rattle.sg_names.proofs.unknown.terms_fault.Given as goal

abbrev pub invariant-loop-term : goal.invariant-loop-term
invariant-loop-term l = l.first ≡ least (flat_map term_faults (take l.term-index l.terms))
