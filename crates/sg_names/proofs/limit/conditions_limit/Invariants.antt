use Rattle.std.proofs.Common.{◌≡◌, take}
use Rattle.std.specs.List.{flat_map}
use Rattle.sg_fault.specs.Faults.{least}
use Rattle.sg_names.specs.Limits.{large_faults}
use Rattle.sg_names.proofs.limit.conditions_limit.Given as goal

abbrev pub invariant-loop-terms : goal.invariant-loop-terms
invariant-loop-terms l = l.first ≡ least (flat_map (large_faults l.sizes) (take l.terms-index l.conditions))
