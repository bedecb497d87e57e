use Rattle.std.proofs.Common.{◌≡◌, take}
use Rattle.std.specs.List.{flat_map}
use Rattle.sg_fault.specs.Faults.{least}
use Rattle.sg_values.specs.Ranges.{range_faults}
use Rattle.sg_values.proofs.range.ranges_fault.Given as goal

abbrev pub invariant-loop-arg : goal.invariant-loop-arg
invariant-loop-arg l = l.first ≡ least (flat_map (range_faults l.scale) (take l.arg-index l.args))
