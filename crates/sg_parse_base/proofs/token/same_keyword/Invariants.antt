use Rattle.std.proofs.Common.{◌≡◌, drop}
use Rattle.sg_parse_base.specs.Tokens.{same_keyword}
use Rattle.sg_parse_base.proofs.token.same_keyword.Given as goal

abbrev pub invariant-loop-place : goal.invariant-loop-place
invariant-loop-place l = same_keyword l.text l.word ≡ same_keyword (drop l.place l.text) (drop l.place l.word)
