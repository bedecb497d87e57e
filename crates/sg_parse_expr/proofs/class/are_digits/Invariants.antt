use Rattle.std.proofs.Common.{◌≡◌, drop}
use Rattle.sg_parse_expr.specs.Classes.{are_digits}
use Rattle.sg_parse_expr.proofs.class.are_digits.Given as goal

abbrev pub invariant-loop-byte : goal.invariant-loop-byte
invariant-loop-byte l = are_digits l.text ≡ are_digits (drop l.byte-index l.text)
