use Rattle.std.proofs.Common.{◌≡◌, ◌≤◌, drop, Some}
use Rattle.sg_options.specs.Numbers.{digits_behind}
use Rattle.sg_options.proofs.numbers.number_to.Given as goal

abbrev pub invariant-loop-byte : goal.invariant-loop-byte
invariant-loop-byte l = record {
  so_far : digits_behind l.base l.high (Some 0) l.text ≡ digits_behind l.base l.high (Some l.number) (drop l.byte-index l.text);
  bound : l.number ≤ l.high;
}
