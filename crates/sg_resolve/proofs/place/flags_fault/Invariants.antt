use Rattle.std.proofs.Common.{◌≡◌, take}
use Rattle.std.specs.List.{flat_map}
use Rattle.sg_fault.specs.Faults.{least}
use Rattle.sg_resolve.specs.Places.{flag_faults}
use Rattle.sg_resolve.proofs.place.flags_fault.Given as goal

abbrev pub invariant-loop-flag : goal.invariant-loop-flag
invariant-loop-flag l = l.first ≡ least (flat_map flag_faults (take l.flag-index l.flags))
