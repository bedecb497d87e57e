use Rattle.std.proofs.Common.{◌≡◌, take}
use Rattle.std.specs.List.{flat_map}
use Rattle.sg_fault.specs.Faults.{least}
use Rattle.sg_names.specs.Unknown.{part_faults}
use Rattle.sg_names.proofs.unknown.unknown_fault.Given as goal

abbrev pub invariant-loop-part : goal.invariant-loop-part
invariant-loop-part l = l.first ≡ least (flat_map part_faults (take l.part-index l.parts))
