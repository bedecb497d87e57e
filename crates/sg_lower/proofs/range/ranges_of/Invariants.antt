use Rattle.std.proofs.Common.{◌≡◌, take}
use Rattle.std.specs.List.{flat_map}
use Rattle.sg_lower.specs.Ranges.{ranges_in}
use Rattle.sg_lower.proofs.range.ranges_of.Given as goal

abbrev pub invariant-loop-arg : goal.invariant-loop-arg
invariant-loop-arg l = l.ranges ≡ flat_map (ranges_in l.scale) (take l.arg-index l.args)
