use Rattle.std.proofs.Common.{◌≡◌, drop}
use Rattle.sg_destination.specs.ByPath.{has_dollar}
use Rattle.sg_destination.proofs.by_path.has_dollar.Given as goal

abbrev pub invariant-loop-byte : goal.invariant-loop-byte
invariant-loop-byte l = has_dollar l.text ≡ has_dollar (drop l.byte-index l.text)
