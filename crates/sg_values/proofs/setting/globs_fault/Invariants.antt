use Rattle.std.proofs.Common.{◌≡◌, take}
use Rattle.std.specs.List.{flat_map}
use Rattle.sg_fault.specs.Faults.{least}
use Rattle.sg_values.specs.Settings.{glob_faults}
use Rattle.sg_values.proofs.setting.globs_fault.Given as goal

abbrev pub invariant-loop-arg : goal.invariant-loop-arg
invariant-loop-arg l = l.first ≡ least (flat_map glob_faults (take l.arg-index l.args))
