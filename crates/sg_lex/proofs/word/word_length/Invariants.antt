use Rattle.std.proofs.Common.{◌≡◌, ◌+◌, length}
use Rattle.sg_lex.specs.Tokens.{word_length}
use Rattle.sg_lex.proofs.word.word_length.Given as goal

abbrev pub invariant-loop-rest : goal.invariant-loop-rest
invariant-loop-rest l = record {
  counted : word_length l.fn.before l.text ≡ l.count + word_length l.last l.rest;
  bounded : l.count + length l.rest ≡ length l.text;
}

abbrev pub decreases-loop-rest : goal.decreases-loop-rest
decreases-loop-rest l = length l.rest
