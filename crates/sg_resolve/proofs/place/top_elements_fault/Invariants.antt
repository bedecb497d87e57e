use Rattle.std.proofs.Common.{◌≡◌, take}
use Rattle.std.specs.List.{flat_map}
use Rattle.sg_fault.specs.Faults.{least}
use Rattle.sg_resolve.specs.Places.{top_element_faults}
use Rattle.sg_resolve.proofs.place.top_elements_fault.Given as goal

abbrev pub invariant-loop-element : goal.invariant-loop-element
invariant-loop-element l = l.first ≡ least (flat_map top_element_faults (take l.element-index l.elements))
