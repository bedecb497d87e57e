use Rattle.std.proofs.Common.{◌≡◌, ◌+◌, drop}
use Rattle.std.specs.List.{position_or_len}
use Rattle.sg_parsers.specs.Fields.{is_delimiter}
use Rattle.sg_parsers.proofs.skips.before_any.Given as goal

abbrev pub invariant-loop-place : goal.invariant-loop-place
invariant-loop-place l = l.place + position_or_len (is_delimiter l.bytes) (drop l.place l.text) ≡ position_or_len (is_delimiter l.bytes) l.text
