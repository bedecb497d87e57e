use Rattle.std.proofs.Common.{◌≡◌, [], take}
use Rattle.std.specs.List.{sum_by}
use Rattle.sg_names.specs.Sizes.{capped, part_size}
use Rattle.sg_names.proofs.size.parts_size.Given as goal

abbrev pub invariant-loop-part : goal.invariant-loop-part
invariant-loop-part l = l.sum ≡ capped (sum_by (part_size l.sizes [] []) (take l.part-index l.parts))
