use Rattle.std.proofs.Common.{◌≡◌, ◌+◌, ◌-◌, ◌≤◌, length, drop}
use Rattle.sg_lex.specs.Tokens.{tokens_of, tokens_from}
use Rattle.sg_lex.specs.Pieces.{lexed_after}
use Rattle.sg_lex.proofs.lexer.tokens.Given as goal

abbrev pub invariant-loop-spot : goal.invariant-loop-spot
invariant-loop-spot l = record {
  value : tokens_of l.file l.text ≡ lexed_after l.tokens.items (tokens_from l.file l.spot 0 (drop l.spot.place l.text));
  place : l.spot.place ≤ length l.text;
  line : l.spot.line ≤ l.spot.place + 1;
  column : l.spot.column ≤ l.spot.place + 1;
}

abbrev pub decreases-loop-spot : goal.decreases-loop-spot
decreases-loop-spot l = length l.text - l.spot.place
