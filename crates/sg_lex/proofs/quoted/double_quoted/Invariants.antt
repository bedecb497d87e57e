use Rattle.std.proofs.Common.{◌≡◌, ◌+◌, ◌-◌, ◌≤◌, length, drop}
use Rattle.std.specs.Option.{option_map}
use Rattle.sg_lex.specs.Tokens.{double_quoted}
use Rattle.sg_lex.proofs.Strings.{spelled_before}
use Rattle.sg_lex.proofs.quoted.double_quoted.Given as goal

abbrev pub invariant-loop-place : goal.invariant-loop-place
invariant-loop-place l = record {
  read : double_quoted 0 l.text ≡ option_map (spelled_before l.content.items l.place) (double_quoted 0 (drop l.place l.text));
  bounded : l.place ≤ length l.text + 3;
}

abbrev pub decreases-loop-place : goal.decreases-loop-place
decreases-loop-place l = length l.text - l.place
