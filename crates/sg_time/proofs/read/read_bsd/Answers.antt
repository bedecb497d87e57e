use Rattle.std.proofs.Common.{◌≡◌, ◌∷◌, ◌++◌, ◌∙◌, sym, refl, arith}
use Rattle.std.proofs.lemmas.Int.{ints}
use Rattle.sg_time.specs.Local.{local_time}
use Rattle.sg_time.specs.Reading.{clock_form, year_by_receipt}
use Rattle.sg_time.proofs.Numbers.{behind_byte}
use Rattle.sg_time.proofs.Readings.{bsd_behind_month, bsd_month, day_same, small_day, bsd_from_parts}
use Rattle.sg_time.proofs.read.read_bsd.Goals as goal

pub returns-in_default-clause-reading : goal.returns-in_default-clause-reading
returns-in_default-clause-reading c = λ stamp len r. c.in_default.ensures r.date.month _ r.date.month_in r.is_text

pub returns-in_default-after-clause-reading : goal.returns-in_default-after-clause-reading
returns-in_default-after-clause-reading c = λ stamp len r.
    c.in_default-after.ensures (r.day ++ (32 ∷ clock_form r.time ++ r.rest)) (bsd_behind_month c.args.text.now c.in-Some.rest.now c.in-Some.month (local_time c.args.received) c.args.received.offset stamp len r c.in-Some.ensures.0 c.in-Some.ensures.1)

pub returns-in_default-day_of_month-clause-reading : goal.returns-in_default-day_of_month-clause-reading
returns-in_default-day_of_month-clause-reading c = λ stamp len r.
    let first = bsd_behind_month c.args.text.now c.in-Some.rest.now c.in-Some.month (local_time c.args.received) c.args.received.offset stamp len r c.in-Some.ensures.0 c.in-Some.ensures.1 in
    let second = behind_byte 32 32 c.in-Some-after.rest.now (r.day ++ (32 ∷ clock_form r.time ++ r.rest)) c.in-Some.rest.now c.in-Some-after.ensures first in
    c.in_default-day_of_month.ensures r.date.day r.day (32 ∷ clock_form r.time ++ r.rest) (small_day r.date) r.is_day second

pub returns-in_default-after-2-clause-reading : goal.returns-in_default-after-2-clause-reading
returns-in_default-after-2-clause-reading c = λ stamp len r.
    let first = bsd_behind_month c.args.text.now c.in-Some.rest.now c.in-Some.month (local_time c.args.received) c.args.received.offset stamp len r c.in-Some.ensures.0 c.in-Some.ensures.1 in
    let second = behind_byte 32 32 c.in-Some-after.rest.now (r.day ++ (32 ∷ clock_form r.time ++ r.rest)) c.in-Some.rest.now c.in-Some-after.ensures first in
    let d = c.in-Some-day_of_month.ensures in
    let third = day_same c.in-Some-day_of_month.day r.date.day d.1.0 r.day c.in-Some-day_of_month.rest.now (32 ∷ clock_form r.time ++ r.rest) c.in-Some-after.rest.now d.0 (small_day r.date) d.1.1 r.is_day d.1.2 second in
    c.in_default-after-2.ensures (clock_form r.time ++ r.rest) third.1

pub returns-in_default-clock-clause-reading : goal.returns-in_default-clock-clause-reading
returns-in_default-clock-clause-reading c = λ stamp len r.
    let first = bsd_behind_month c.args.text.now c.in-Some.rest.now c.in-Some.month (local_time c.args.received) c.args.received.offset stamp len r c.in-Some.ensures.0 c.in-Some.ensures.1 in
    let second = behind_byte 32 32 c.in-Some-after.rest.now (r.day ++ (32 ∷ clock_form r.time ++ r.rest)) c.in-Some.rest.now c.in-Some-after.ensures first in
    let d = c.in-Some-day_of_month.ensures in
    let third = day_same c.in-Some-day_of_month.day r.date.day d.1.0 r.day c.in-Some-day_of_month.rest.now (32 ∷ clock_form r.time ++ r.rest) c.in-Some-after.rest.now d.0 (small_day r.date) d.1.1 r.is_day d.1.2 second in
    c.in_default-clock.ensures r.time r.rest (behind_byte 32 32 c.in-Some-after-2.rest.now (clock_form r.time ++ r.rest) c.in-Some-day_of_month.rest.now c.in-Some-after-2.ensures third.1)

pub returns-in_default-date_by_receipt-clause-reading : goal.returns-in_default-date_by_receipt-clause-reading
returns-in_default-date_by_receipt-clause-reading c = λ stamp len r.
    let first = bsd_behind_month c.args.text.now c.in-Some.rest.now c.in-Some.month (local_time c.args.received) c.args.received.offset stamp len r c.in-Some.ensures.0 c.in-Some.ensures.1 in
    let second = behind_byte 32 32 c.in-Some-after.rest.now (r.day ++ (32 ∷ clock_form r.time ++ r.rest)) c.in-Some.rest.now c.in-Some-after.ensures first in
    let d = c.in-Some-day_of_month.ensures in
    let third = day_same c.in-Some-day_of_month.day r.date.day d.1.0 r.day c.in-Some-day_of_month.rest.now (32 ∷ clock_form r.time ++ r.rest) c.in-Some-after.rest.now d.0 (small_day r.date) d.1.1 r.is_day d.1.2 second in
    let month = bsd_month c.args.text.now c.in-Some.rest.now c.in-Some.month (local_time c.args.received) c.args.received.offset stamp len r c.in-Some.ensures.0 c.in-Some.ensures.1 in
    let year : r.date.year ≡ year_by_receipt c.local.result c.in-Some.month = r.by_receipt ∙ rw (month, c.local.ensures.value) refl in
    c.in_default-date_by_receipt.ensures r.date r.years year month (sym third.0)

pub returns-clause-reading : goal.returns-clause-reading
returns-clause-reading c =
    let d = c.in-Some-day_of_month.ensures in
    let date = c.in-Some-date_by_receipt.date in
    let found = c.in-Some-date_by_receipt.ensures in
    let same : c.stamp_at-stamp.result.offset ≡ c.args.received.offset = c.stamp_at-stamp.ensures.offset ∙ omega (arith, ints) in
    bsd_from_parts c.args.text.now c.in-Some.rest.now c.in-Some-after.rest.now c.in-Some-day_of_month.rest.now c.in-Some-after-2.rest.now d.1.0 c.in-Some-clock.rest.now date c.in-Some-clock.time (local_time c.args.received) c.args.received.offset c.stamp_at-stamp.result found.0 (found.1 ∙ rw (found.2, c.local.ensures.value) refl) (rw found.2 c.in-Some.ensures.1) c.in-Some-after.ensures (rw found.3 d.1.1) d.1.2 c.in-Some-after-2.ensures c.in-Some-clock.ensures same c.stamp_at-stamp.ensures.moment
