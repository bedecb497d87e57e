use Rattle.std.proofs.Common.{◌≡◌, ◌≤◌, ◌<◌, drop, Some}
use Rattle.sg_words.specs.Numbers.{digits_behind}
use Rattle.sg_words.proofs.numbers.with_digits.Given as goal

abbrev pub invariant-loop-byte : goal.invariant-loop-byte
invariant-loop-byte l = record {
  so_far : digits_behind l.most (Some l.first) l.text ≡ digits_behind l.most (Some l.number) (drop l.byte-index l.text);
  bound : l.number ≤ l.most;
  some : 0 < l.number;
}
