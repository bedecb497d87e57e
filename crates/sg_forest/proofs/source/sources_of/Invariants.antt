use Rattle.std.proofs.Common.{◌≡◌, take}
use Rattle.std.specs.List.{flat_map}
use Rattle.sg_forest.specs.References.{source_in}
use Rattle.sg_forest.proofs.source.sources_of.Given as goal

abbrev pub invariant-loop-element : goal.invariant-loop-element
invariant-loop-element l = l.found.items ≡ flat_map (source_in l.inlets) (take l.element-index l.elements)
