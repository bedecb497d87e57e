use Rattle.std.proofs.Common.{◌≡◌, ◌++◌, ◌∙◌, arith}
use Rattle.std.proofs.lemmas.Int.{ints}
use Rattle.sg_time.specs.Reading.{clock_form}
use Rattle.sg_time.proofs.Numbers.{behind_byte}
use Rattle.sg_time.proofs.Fractions.{zone_bound}
use Rattle.sg_time.proofs.Readings.{iso_behind_date, behind_time, iso_from_parts}
use Rattle.sg_time.proofs.read.read_iso.Goals as goal

pub returns-in_default-after-clause-reading : goal.returns-in_default-after-clause-reading
returns-in_default-after-clause-reading c = λ stamp len r.
    c.in_default-after.ensures (clock_form r.time ++ (r.fraction ++ (r.zone ++ r.rest))) (iso_behind_date c.args.text.now c.in-Some.rest.now c.in-Some.date stamp len r c.in-Some.ensures.1)

pub returns-in_default-clock-clause-reading : goal.returns-in_default-clock-clause-reading
returns-in_default-clock-clause-reading c = λ stamp len r.
    let first = iso_behind_date c.args.text.now c.in-Some.rest.now c.in-Some.date stamp len r c.in-Some.ensures.1 in
    c.in_default-clock.ensures r.time (r.fraction ++ (r.zone ++ r.rest)) (behind_byte 84 84 c.in-Some-after.rest.now _ c.in-Some.rest.now c.in-Some-after.ensures first)

pub returns-in_default-fraction-clause-reading : goal.returns-in_default-fraction-clause-reading
returns-in_default-fraction-clause-reading c = λ stamp len r.
    let first = iso_behind_date c.args.text.now c.in-Some.rest.now c.in-Some.date stamp len r c.in-Some.ensures.1 in
    let second = behind_byte 84 84 c.in-Some-after.rest.now (clock_form r.time ++ (r.fraction ++ (r.zone ++ r.rest))) c.in-Some.rest.now c.in-Some-after.ensures first in
    let third = behind_time c.in-Some-after.rest.now c.in-Some-clock.rest.now (r.fraction ++ (r.zone ++ r.rest)) c.in-Some-clock.time r.time c.in-Some-clock.ensures second in
    c.in_default-fraction.ensures.reading r.micros r.fraction r.zone r.rest stamp.offset r.is_fraction r.is_zone third

pub returns-in_default-zone-clause-reading : goal.returns-in_default-zone-clause-reading
returns-in_default-zone-clause-reading c = λ stamp len r.
    let first = iso_behind_date c.args.text.now c.in-Some.rest.now c.in-Some.date stamp len r c.in-Some.ensures.1 in
    let second = behind_byte 84 84 c.in-Some-after.rest.now (clock_form r.time ++ (r.fraction ++ (r.zone ++ r.rest))) c.in-Some.rest.now c.in-Some-after.ensures first in
    let third = behind_time c.in-Some-after.rest.now c.in-Some-clock.rest.now (r.fraction ++ (r.zone ++ r.rest)) c.in-Some-clock.time r.time c.in-Some-clock.ensures second in
    let fourth = c.in-Some-fraction.ensures.only r.micros r.fraction r.zone r.rest stamp.offset r.is_fraction r.is_zone third in
    c.in_default-zone.ensures r.zone r.rest stamp.offset r.is_zone fourth

pub stamp_at-stamp-requires-clause-year : goal.stamp_at-stamp-requires-clause-year
stamp_at-stamp-requires-clause-year c = omega (arith, ints, c.in-Some.ensures.0.0)

pub returns-clause-reading : goal.returns-clause-reading
returns-clause-reading c =
    let f = c.in-Some-fraction.ensures.reading in
    let z = c.in-Some-zone.ensures in
    let bound = zone_bound z.0 c.in-Some-zone.offset z.1 in
    let same : c.stamp_at-stamp.result.offset ≡ c.in-Some-zone.offset = c.stamp_at-stamp.ensures.offset ∙ omega (arith, ints, bound.0, bound.1) in
    iso_from_parts c.args.text.now c.in-Some.rest.now c.in-Some-after.rest.now c.in-Some-clock.rest.now c.in-Some-fraction.rest.now f.0 z.0 c.in-Some-zone.rest.now c.in-Some.date c.in-Some-clock.time c.in-Some-fraction.micros c.stamp_at-stamp.result c.in-Some.ensures.0 c.in-Some.ensures.1 c.in-Some-after.ensures c.in-Some-clock.ensures f.1 f.3 (rw same z.1) z.2 c.stamp_at-stamp.ensures.moment
