use Rattle.std.proofs.Common.{◌≡◌, take}
use Rattle.std.specs.List.{flat_map}
use Rattle.sg_fault.specs.Faults.{least}
use Rattle.sg_values.specs.Parsers.{column_faults}
use Rattle.sg_values.proofs.parser.column_names_fault.Given as goal

abbrev pub invariant-loop-arg : goal.invariant-loop-arg
invariant-loop-arg l = l.first ≡ least (flat_map (column_faults l.word l.prefix) (take l.arg-index l.args))
