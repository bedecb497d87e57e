use Rattle.std.proofs.Common.{◌≡◌, take}
use Rattle.std.specs.List.{flat_map}
use Rattle.sg_fault.specs.Faults.{least}
use Rattle.sg_values.specs.Parsers.{parser_faults}
use Rattle.sg_values.proofs.text.parsers_fault.Given as goal

abbrev pub invariant-loop-call : goal.invariant-loop-call
invariant-loop-call l = l.first ≡ least (flat_map parser_faults (take l.call-index l.calls))
