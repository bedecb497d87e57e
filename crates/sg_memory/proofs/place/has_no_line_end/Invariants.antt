use Rattle.std.proofs.Common.{◌≡◌, drop}
use Rattle.std.specs.Prelude.{◌==◌, not}
use Rattle.std.specs.List.{list_all}
use Rattle.sg_memory.proofs.place.has_no_line_end.Given as goal

abbrev pub invariant-loop-byte : goal.invariant-loop-byte
invariant-loop-byte l = list_all (λ byte. not (byte == 10)) l.bytes ≡ list_all (λ byte. not (byte == 10)) (drop l.byte-index l.bytes)
