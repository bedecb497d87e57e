use Rattle.std.proofs.Common.{◌≡◌, drop}
use Rattle.sg_hint.specs.Lines.{behind_bytes, first_place}
use Rattle.sg_hint.proofs.line.place_behind.Given as goal

abbrev pub invariant-loop-byte : goal.invariant-loop-byte
invariant-loop-byte l = behind_bytes l.place (drop l.byte-index l.text) ≡ behind_bytes first_place l.text
