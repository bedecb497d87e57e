use Rattle.std.proofs.Common.{◌≡◌, ◌≤◌, ◌+◌, drop}
use Rattle.sg_time.specs.Reading.{micros_from}
use Rattle.sg_time.proofs.fraction.micros_of.Given as goal

abbrev pub invariant-loop-digit : goal.invariant-loop-digit
invariant-loop-digit l = record {
  sum : l.micros + micros_from l.unit (drop l.digit-index l.digits) ≡ micros_from 100000 l.digits;
  unit_bound : l.unit ≤ 100000;
}
