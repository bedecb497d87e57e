use Rattle.std.proofs.Common.{◌≡◌, take}
use Rattle.std.specs.List.{flat_map}
use Rattle.sg_names.specs.Parts.{conditions_in}
use Rattle.sg_names.proofs.part.conditions_in.Given as goal

abbrev pub invariant-loop-arg : goal.invariant-loop-arg
invariant-loop-arg l = l.found ≡ flat_map (conditions_in l.names) (take l.arg-index l.args)
