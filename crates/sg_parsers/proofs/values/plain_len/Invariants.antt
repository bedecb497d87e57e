use Rattle.std.proofs.Common.{◌≡◌, ◌+◌, drop}
use Rattle.sg_parsers.specs.Values.{plain_len}
use Rattle.sg_parsers.proofs.values.plain_len.Given as goal

abbrev pub invariant-loop-place : goal.invariant-loop-place
invariant-loop-place l = l.place + plain_len l.separator (drop l.place l.text) ≡ plain_len l.separator l.text
