use Rattle.std.proofs.Common.{◌≡◌, ◌<◌, ◌≤◌, ◌∷◌, ◌++◌, arith, unsigned_abs, pos, ℤ, ◌≤ℤ◌}
use Rattle.jiff_core.specs.declared.civil.date.Date.{Date}
use Rattle.jiff_core.specs.Calendar.{IsDate}
use Rattle.jiff_core.proofs.CalendarLemmas.{days_in_month_bounds}
use Rattle.jiff_core.proofs.SignedLemmas.{signed_arith}
use Rattle.std.proofs.lemmas.Int.{ints}
use Rattle.sg_time.specs.Text.{digits}
use Rattle.sg_time.proofs.Numbers.{behind_four, behind_two, behind_byte, four-digits_same, two-digits_same, abs-bound, abs-pos}
use Rattle.sg_time.proofs.number.date.Goals as goal
use Rattle.sg_time.proofs.number.date.Goals.{then-year-lt1-via-then-year-lt1, then-year-lt1-via-else-year-lt1+then-year-gt9998}

small_month : (d : Date) → d.month < 100
small_month d = omega (arith, d.month_in)

small_day : (d : Date) → d.day < 100
small_day d = omega (arith, d.day_in, days_in_month_bounds d.year d.month)

is_date : (d : Date) (y m n : ℤ) → y ≡ d.year → m ≡ pos d.month → n ≡ pos d.day → IsDate y m n
is_date d y m n year month day =
    rw (year, month, day) (d.year_in, (omega (arith, signed_arith, d.month_in), omega (arith, signed_arith, d.month_in)), (omega (arith, signed_arith, d.day_in), omega (arith, signed_arith, d.day_in)))

small_year : (y : ℤ) → pos 1 ≤ℤ y → y ≤ℤ pos 9998 → (unsigned_abs y ≤ 9998) × (pos (unsigned_abs y) ≡ y)
small_year y low high =
    let from : pos 0 ≤ℤ y = omega (arith, signed_arith) in
    (abs-bound y 9998 from high, abs-pos y from)

pub returns-in_default-two_digits : goal.returns-in_default-two_digits
returns-in_default-two_digits c = λ date rest years e.
    let first = behind_four c.in-Some.year (unsigned_abs date.year) c.in-Some.text.now (45 ∷ digits 2 date.month ++ (45 ∷ digits 2 date.day ++ rest)) c.args.text.now c.in-Some.ensures.1 e in
    c.in_default-two_digits.ensures date.month (45 ∷ digits 2 date.day ++ rest) (small_month date) (behind_byte 45 45 c.in-Some-after.text.now _ c.in-Some.text.now c.in-Some-after.ensures first)

pub returns-in_default-two_digits-2 : goal.returns-in_default-two_digits-2
returns-in_default-two_digits-2 c = λ date rest years e.
    let first = behind_four c.in-Some.year (unsigned_abs date.year) c.in-Some.text.now (45 ∷ digits 2 date.month ++ (45 ∷ digits 2 date.day ++ rest)) c.args.text.now c.in-Some.ensures.1 e in
    let second = behind_byte 45 45 c.in-Some-after.text.now (digits 2 date.month ++ (45 ∷ digits 2 date.day ++ rest)) c.in-Some.text.now c.in-Some-after.ensures first in
    let third = behind_two c.in-Some-two_digits.month date.month c.in-Some-two_digits.text.now (45 ∷ digits 2 date.day ++ rest) c.in-Some-after.text.now c.in-Some-two_digits.ensures.1 second in
    c.in_default-two_digits-2.ensures date.day rest (small_day date) (behind_byte 45 45 c.in-Some-after-2.text.now _ c.in-Some-two_digits.text.now c.in-Some-after-2.ensures third)

pub returns-then-year-lt1 : goal.returns-then-year-lt1
returns-then-year-lt1 c = λ date rest years e.
    let year = small_year date.year years.0 years.1 in
    let same : c.in-Some.year ≡ unsigned_abs date.year = four-digits_same c.in-Some.year (unsigned_abs date.year) c.in-Some.text.now (45 ∷ digits 2 date.month ++ (45 ∷ digits 2 date.day ++ rest)) c.args.text.now c.in-Some.ensures.0 (omega (arith, year.0)) c.in-Some.ensures.1 e in
    let low = years.0 in
    elim c.then-year-lt1.branch [
      | then-year-lt1-via-then-year-lt1 w ↦ absurd (omega (arith, signed_arith, year.0, year.1))
      | then-year-lt1-via-else-year-lt1+then-year-gt9998 w ↦ absurd (omega (arith, signed_arith, year.0))
    ]

pub returns-in-Err : goal.returns-in-Err
returns-in-Err c = λ date rest years e.
    let year = small_year date.year years.0 years.1 in
    let tail = 45 ∷ digits 2 date.month ++ (45 ∷ digits 2 date.day ++ rest) in
    let first = behind_four c.in-Some.year (unsigned_abs date.year) c.in-Some.text.now tail c.args.text.now c.in-Some.ensures.1 e in
    let second = behind_byte 45 45 c.in-Some-after.text.now (digits 2 date.month ++ (45 ∷ digits 2 date.day ++ rest)) c.in-Some.text.now c.in-Some-after.ensures first in
    let third = behind_two c.in-Some-two_digits.month date.month c.in-Some-two_digits.text.now (45 ∷ digits 2 date.day ++ rest) c.in-Some-after.text.now c.in-Some-two_digits.ensures.1 second in
    let fourth = behind_byte 45 45 c.in-Some-after-2.text.now (digits 2 date.day ++ rest) c.in-Some-two_digits.text.now c.in-Some-after-2.ensures third in
    let same_year : c.in-Some.year ≡ unsigned_abs date.year = four-digits_same c.in-Some.year (unsigned_abs date.year) c.in-Some.text.now tail c.args.text.now c.in-Some.ensures.0 (omega (arith, year.0)) c.in-Some.ensures.1 e in
    let same_month : c.in-Some-two_digits.month ≡ date.month = two-digits_same c.in-Some-two_digits.month date.month c.in-Some-two_digits.text.now (45 ∷ digits 2 date.day ++ rest) c.in-Some-after.text.now c.in-Some-two_digits.ensures.0 (small_month date) c.in-Some-two_digits.ensures.1 second in
    let same_day : c.in-Some-two_digits-2.day ≡ date.day = two-digits_same c.in-Some-two_digits-2.day date.day c.in-Some-two_digits-2.rest.now rest c.in-Some-after-2.text.now c.in-Some-two_digits-2.ensures.0 (small_day date) c.in-Some-two_digits-2.ensures.1 fourth in
    cc (c.in-Err.ensures.succeeds.1 (is_date date _ _ _ (omega (arith, ints, year.1)) (omega (arith, ints, c.in-Some-two_digits.ensures.0)) (omega (arith, ints, c.in-Some-two_digits-2.ensures.0))))
