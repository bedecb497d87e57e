use Rattle.std.proofs.Common.{◌≡◌, take}
use Rattle.std.specs.List.{flat_map}
use Rattle.sg_fault.specs.Faults.{least}
use Rattle.sg_values.specs.Settings.{hard_faults}
use Rattle.sg_values.proofs.setting.hards_fault.Given as goal

abbrev pub invariant-loop-arg : goal.invariant-loop-arg
invariant-loop-arg l = l.first ≡ least (flat_map (hard_faults l.word) (take l.arg-index l.args))
