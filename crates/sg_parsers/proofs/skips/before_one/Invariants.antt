use Rattle.std.proofs.Common.{◌≡◌, ◌+◌, ◌≤◌, length, drop}
use Rattle.std.specs.List.{position_or_len}
use Rattle.memchr.specs.Find.{is_byte}
use Rattle.sg_parsers.proofs.skips.before_one.Given as goal

abbrev pub invariant-loop-place : goal.invariant-loop-place
invariant-loop-place l = l.place + position_or_len (is_byte l.byte) (drop l.place l.text) ≡ position_or_len (is_byte l.byte) l.text
