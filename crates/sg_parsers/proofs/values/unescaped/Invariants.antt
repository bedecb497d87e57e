use Rattle.std.proofs.Common.{◌≡◌, ◌++◌, drop, false}
use Rattle.sg_parsers.specs.Values.{unescaped_from}
use Rattle.sg_parsers.proofs.values.unescaped.Given as goal

abbrev pub invariant-loop-byte : goal.invariant-loop-byte
invariant-loop-byte l = l.value.items ++ unescaped_from l.escaped (drop l.byte-index l.text) ≡ unescaped_from false l.text
