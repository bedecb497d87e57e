use Rattle.std.proofs.Common.{◌≡◌, take}
use Rattle.std.specs.List.{flat_map}
use Rattle.sg_fault.specs.Faults.{least}
use Rattle.sg_names.specs.Limits.{part_limits}
use Rattle.sg_names.proofs.limit.large_expression.Given as goal

abbrev pub invariant-loop-part : goal.invariant-loop-part
invariant-loop-part l = l.first ≡ least (flat_map (part_limits l.sizes) (take l.part-index l.parts))
