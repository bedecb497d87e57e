use Rattle.std.proofs.Common.{◌≡◌, ◌+◌, ◌≤◌, take}
use Rattle.sg_lex.specs.Pieces.{spot_after}
use Rattle.sg_lex.proofs.lexer.spot_after.Given as goal

abbrev pub invariant-loop-byte : goal.invariant-loop-byte
invariant-loop-byte l = record {
  value : l.now ≡ spot_after l.initial.now (take l.byte-index l.bytes);
  place : l.now.place ≡ l.initial.now.place + l.byte-index;
  line : l.now.line ≤ l.now.place + 1;
  column : l.now.column ≤ l.now.place + 1;
}
