use Rattle.std.proofs.Common.{◌≡◌, ◌++◌, drop}
use Rattle.sg_parsers.specs.Fields.{value_from, field_value}
use Rattle.sg_parsers.proofs.fields.unquoted.Given as goal

abbrev pub invariant-loop-byte : goal.invariant-loop-byte
invariant-loop-byte l = l.value.items ++ value_from l.within (drop l.byte-index l.written) ≡ field_value l.written
