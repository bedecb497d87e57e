use Rattle.std.proofs.Common.{◌≡◌, drop, false}
use Rattle.sg_parsers.specs.Values.{quote_from}
use Rattle.sg_parsers.proofs.values.quote_place.Given as goal

abbrev pub invariant-loop-place : goal.invariant-loop-place
invariant-loop-place l = quote_from l.escaped l.place (drop l.place l.text) ≡ quote_from false 0 l.text
