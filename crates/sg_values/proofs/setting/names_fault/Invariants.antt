use Rattle.std.proofs.Common.{◌≡◌, take}
use Rattle.std.specs.List.{flat_map}
use Rattle.sg_fault.specs.Faults.{least}
use Rattle.sg_values.specs.Settings.{name_faults}
use Rattle.sg_values.proofs.setting.names_fault.Given as goal

abbrev pub invariant-loop-arg : goal.invariant-loop-arg
invariant-loop-arg l = l.first ≡ least (flat_map name_faults (take l.arg-index l.args))
