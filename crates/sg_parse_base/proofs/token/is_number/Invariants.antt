use Rattle.std.proofs.Common.{◌≡◌, ◌<◌, ◌^◌, drop}
use Rattle.sg_parse_base.specs.Tokens.{digits_from}
use Rattle.sg_parse_base.proofs.token.is_number.Given as goal

abbrev pub invariant-loop-byte : goal.invariant-loop-byte
invariant-loop-byte l = record {
  so_far : digits_from 0 l.text ≡ digits_from l.number (drop l.byte-index l.text);
  below : l.number < 2 ^ 63;
}
