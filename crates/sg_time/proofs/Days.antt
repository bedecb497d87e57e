-- The year, month and day of a day number are those of the date with that number.
use Rattle.std.proofs.Common.{◌≡◌, ℕ, zero, suc, ◌<◌, ◌≤◌, Bool, true, false, refl, ap, ◌∙◌, arith, ℤ, pos, negsuc, ◌<ℤ◌, ◌≤ℤ◌, unsigned_abs, inl, inr}
use Rattle.std.specs.Prelude.{int_le}
use Rattle.std.proofs.lemmas.Bool.{cases_eq}
use Rattle.std.proofs.lemmas.Int.{by_lt_z, ints}
use Rattle.jiff_core.specs.Calendar.{day_count, days_from_civil}
use Rattle.jiff_core.specs.Date.{epoch_day}
use Rattle.jiff_core.specs.declared.civil.date.Date.{Date}
use Rattle.jiff_core.proofs.SignedLemmas.{signed_arith}
use Rattle.jiff_core.proofs.MarchLemmas.{day_count-early}
use Rattle.jiff_core.proofs.CalendarLemmas.{days_from_civil-day_count, day_count-day_of_year, day_count-later_year, day_count-lt_year, day_count-lt_month}
use Rattle.jiff_core.proofs.DateLemmas.{civil, days_from_civil-day}
use Rattle.sg_time.proofs.Numbers.{abs-pos, abs-difference}
use Rattle.sg_time.specs.Local.{last_below, year_of, month_of, day_of_month}

-- the last number that passes, given that none above it does
pub last_below-is : (p : ℕ → Bool) (limit k : ℕ) → k < limit → p k ≡ true → ((j : ℕ) → k < j → j < limit → p j ≡ false) → last_below p limit ≡ k
unfolding last_below
last_below-is p zero k below passes above = absurd (omega arith)
last_below-is p (suc n) k below passes above =
    elim (cases_eq k n) [
      | inl same ↦ rw (← same, passes) refl
      | inr other ↦ rw (above n (omega arith) (omega arith)) (last_below-is p n k (omega arith) passes (λ j low high. above j low (omega arith)))
    ]

int_le-true : (a b : ℤ) → a ≤ℤ b → int_le a b ≡ true
int_le-true a b h = grind (arith, ints)

int_le-false : (a b : ℤ) → b <ℤ a → int_le a b ≡ false
int_le-false a b h = grind (arith, ints)

pub day_count-zero : day_count (pos 0) 1 1 ≡ 3652425
day_count-zero = day_count-early (pos 0) 9999 1 1 refl (omega arith) (omega arith) (omega arith)

-- a date of the years from 0 on isn't before 0000-01-01
pub epoch_day_from : (d : Date) → pos 0 ≤ℤ d.year → negsuc 719527 ≤ℤ epoch_day d
epoch_day_from d h =
    let first = day_count-day_of_year d.year d.month d.day d.day_in.0 in
    let begins : 3652425 ≤ day_count d.year 1 1 = by_lt_z (pos 0) d.year
    (λ lt. omega (arith, day_count-zero, day_count-later_year (pos 0) d.year (omega (arith, signed_arith)) lt))
    (λ le. let e : d.year ≡ pos 0 = omega (arith, signed_arith) in rw e (omega (arith, day_count-zero))) in
    omega (arith, signed_arith, days_from_civil-day_count d.year d.month d.day, d.day_in)

-- and one from 0000-01-01 on is of those years
pub year_from : (d : Date) → negsuc 719527 ≤ℤ epoch_day d → pos 0 ≤ℤ d.year
year_from d h =
    by_lt_z d.year (pos 0)
    (λ lt. absurd (omega (arith, signed_arith, days_from_civil-day_count d.year d.month d.day, day_count-zero, day_count-lt_year d.year d.month d.day (pos 0) 1 1 (civil d) (omega arith) lt)))
    (λ le. omega (arith, signed_arith))

pub year_of-is : (d : Date) → pos 0 ≤ℤ d.year → pos (year_of (epoch_day d)) ≡ d.year
unfolding year_of
year_of-is d h =
    let y = unsigned_abs d.year in
    let same : pos y ≡ d.year = abs-pos d.year h in
    let small : y < 10000 = omega (arith, signed_arith, d.year_in) in
    let begun : days_from_civil (pos y) 1 1 ≤ℤ epoch_day d = rw same (omega (arith, signed_arith, days_from_civil-day_count d.year d.month d.day, days_from_civil-day_count d.year 1 1, day_count-day_of_year d.year d.month d.day d.day_in.0, d.day_in)) in
    let later : (j : ℕ) → y < j → epoch_day d <ℤ days_from_civil (pos j) 1 1 = λ j lt. omega (arith, signed_arith, days_from_civil-day_count d.year d.month d.day, days_from_civil-day_count (pos j) 1 1, day_count-lt_year d.year d.month d.day (pos j) 1 1 (civil d) (omega arith) (omega (arith, signed_arith))) in
    ap pos (last_below-is (λ j. int_le (days_from_civil (pos j) 1 1) (epoch_day d)) 10000 y small (int_le-true _ _ begun) (λ j low high. int_le-false _ _ (later j low))) ∙ same

pub month_of-is : (d : Date) → pos 0 ≤ℤ d.year → month_of (epoch_day d) ≡ d.month
unfolding month_of
month_of-is d h =
    rw (year_of-is d h)
    (let begun : days_from_civil d.year d.month 1 ≤ℤ epoch_day d = omega (arith, signed_arith, days_from_civil-day d.year d.month d.day 1 d.day_in.0 (omega arith), d.day_in) in
    let later : (j : ℕ) → d.month < j → epoch_day d <ℤ days_from_civil d.year j 1 = λ j lt. omega (arith, signed_arith, days_from_civil-day_count d.year d.month d.day, days_from_civil-day_count d.year j 1, day_count-lt_month d.year d.month d.day j 1 (civil d) (omega arith) lt) in
    last_below-is (λ j. int_le (days_from_civil d.year j 1) (epoch_day d)) 13 d.month (omega (arith, d.month_in)) (int_le-true _ _ begun) (λ j low high. int_le-false _ _ (later j low)))

pub day_of_month-is : (d : Date) → pos 0 ≤ℤ d.year → day_of_month (epoch_day d) ≡ d.day
unfolding day_of_month
day_of_month-is d h =
    rw (year_of-is d h, month_of-is d h)
    (abs-difference _ _ _ d.day_in.0 (days_from_civil-day d.year d.month d.day 1 d.day_in.0 (omega arith)))
