use Rattle.std.proofs.Common.{◌≡◌, ◌++◌, take, drop, map}
use Rattle.sg_template.specs.Path.{name_byte}
use Rattle.sg_template.proofs.path.make_name_bytes.Given as goal

abbrev pub invariant-loop-byte : goal.invariant-loop-byte
invariant-loop-byte l = l.text ≡ map name_byte (take l.byte-index l.fn.text) ++ drop l.byte-index l.fn.text
