-- Every stamp that is valid shows a date of the calendar and a time of day.
use Rattle.std.proofs.Common.{◌≡◌, ℕ, zero, suc, ◌+◌, ◌-◌, ◌/◌, ◌%◌, ◌<◌, ◌≤◌, inl, inr, refl, sym, ap, ◌∙◌, subst, arith, ℤ, pos, negsuc, ◌+ℤ◌, ◌<ℤ◌, ◌≤ℤ◌, unsigned_abs}
use Rattle.std.specs.Int.{int_div_euclid, int_rem_euclid}
use Rattle.std.proofs.lemmas.Bool.{cases_lt}
use Rattle.std.proofs.lemmas.Int.{by_lt_z, ints}
use Rattle.jiff_core.specs.Calendar.{days_from_civil, days_in_month}
use Rattle.jiff_core.specs.Date.{epoch_day}
use Rattle.jiff_core.specs.declared.civil.date.Date.{Date}
use Rattle.jiff_core.specs.declared.civil.time.Time.{Time}
use Rattle.jiff_core.proofs.SignedLemmas.{signed_arith}
use Rattle.jiff_core.proofs.CalendarLemmas.{days_from_civil-day_count, days_in_month_bounds}
use Rattle.jiff_core.proofs.DateLemmas.{days_from_civil-day, days_from_civil-next_month, days_from_civil-next_year, days_from_civil-max}
use Rattle.sg_time.specs.declared.stamp.Stamp.{Stamp}
use Rattle.sg_time.specs.declared.local.LocalTime.{LocalTime}
use Rattle.sg_time.specs.Stamp.{IsValidStamp, local_of}
use Rattle.sg_time.specs.Local.{local_time, day_of, micros_of_day, year_of, month_of, day_of_month}
use Rattle.sg_time.proofs.Numbers.{abs-pos}
use Rattle.sg_time.proofs.Days.{day_count-zero, year_from, year_of-is, month_of-is, day_of_month-is}

-- a date with this day number
record DateOn (day : ℤ) : Type 0 where
  date : Date
  is_day : epoch_day date ≡ day

-- the day behind a date
within_month : (d : Date) → d.day < days_in_month d.year d.month → DateOn (epoch_day d +ℤ pos 1)
within_month d h = record {
  date = record { year = d.year; month = d.month; day = d.day + 1; year_in = d.year_in; month_in = d.month_in; day_in = (omega arith, omega arith) };
  is_day = omega (arith, signed_arith, days_from_civil-day d.year d.month (d.day + 1) d.day (omega arith) d.day_in.0);
}

next_month : (d : Date) → d.day ≡ days_in_month d.year d.month → d.month < 12 → DateOn (epoch_day d +ℤ pos 1)
next_month d e h = record {
  date = record { year = d.year; month = d.month + 1; day = 1; year_in = d.year_in; month_in = (omega arith, omega arith); day_in = (omega arith, omega (arith, (days_in_month_bounds d.year (d.month + 1)).1)) };
  is_day = days_from_civil-next_month d.year d.month d.day d.month_in.0 e;
}

last_day : (y : ℤ) (m d : ℕ) → m ≡ 12 → d ≡ days_in_month y m → days_from_civil y 12 31 ≡ days_from_civil y m d
last_day y m d e f = rw (f, e) refl

next_year : (d : Date) → d.day ≡ days_in_month d.year d.month → d.month ≡ 12 → d.year <ℤ pos 9999 → DateOn (epoch_day d +ℤ pos 1)
next_year d e f h = record {
  date = record {
    year = d.year +ℤ pos 1;
    month = 1;
    day = 1;
    year_in = (omega (arith, signed_arith, d.year_in), omega (arith, signed_arith));
    month_in = (omega arith, omega arith);
    day_in = (omega arith, omega (arith, (days_in_month_bounds (d.year +ℤ pos 1) 1).1));
  };
  is_day =
      days_from_civil-next_year d.year (d.year +ℤ pos 1) (omega (arith, signed_arith, d.year_in)) refl
      ∙ ap (λ (z : ℤ). z +ℤ pos 1) (last_day d.year d.month d.day f e);
}

not_last : (d : Date) → d.day ≡ days_in_month d.year d.month → d.month ≡ 12 → epoch_day d <ℤ pos 2932896 → pos 9999 ≤ℤ d.year → ⊥
not_last d e f before h =
    let year : d.year ≡ pos 9999 = omega (arith, signed_arith, d.year_in) in
    let last : epoch_day d ≡ pos 2932896 = sym (last_day d.year d.month d.day f e) ∙ (ap (λ (z : ℤ). days_from_civil z 12 31) year ∙ days_from_civil-max) in
    omega (arith, signed_arith, last)

next_date : (d : Date) → epoch_day d <ℤ pos 2932896 → DateOn (epoch_day d +ℤ pos 1)
next_date d h =
    elim (cases_lt d.day (days_in_month d.year d.month)) [
      | inl within ↦ within_month d within
      | inr full ↦
          let e : d.day ≡ days_in_month d.year d.month = omega (arith, full, d.day_in) in
          elim (cases_lt d.month 12) [
            | inl month ↦ next_month d e month
            | inr december ↦
                let f : d.month ≡ 12 = omega (arith, december, d.month_in) in
                next_year d e f (by_lt_z d.year (pos 9999) (λ lt. lt) (λ le. absurd (not_last d e f h le)))
          ]
    ]

-- so many days behind 0000-01-01
date_after : (k : ℕ) → k ≤ 3652424 → DateOn (negsuc 719527 +ℤ pos k)
date_after zero h = record {
  date = record { year = pos 0; month = 1; day = 1; year_in = (omega (arith, signed_arith), omega (arith, signed_arith)); month_in = (omega arith, omega arith); day_in = (omega arith, omega arith) };
  is_day = omega (arith, signed_arith, days_from_civil-day_count (pos 0) 1 1, day_count-zero);
}
date_after (suc k) h =
    let before = date_after k (omega arith) in
    let next = next_date before.date (omega (arith, ints, before.is_day)) in
    record { date = next.date; is_day = omega (arith, ints, next.is_day, before.is_day) }

date_on : (day : ℤ) → negsuc 719527 ≤ℤ day → day ≤ℤ pos 2932896 → DateOn day
date_on day low high =
    let k : ℕ = unsigned_abs (day +ℤ pos 719528) in
    let is : pos k ≡ day +ℤ pos 719528 = abs-pos (day +ℤ pos 719528) (omega (arith, ints)) in
    let found = date_after k (omega (arith, ints, is)) in
    let same : negsuc 719527 +ℤ pos k ≡ day = omega (arith, ints, is) in
    record { date = found.date; is_day = found.is_day ∙ same }

-- the day and the time of day of a local time
day_from : (z : ℤ) → negsuc 62167219199999999 ≤ℤ z → negsuc 719527 ≤ℤ int_div_euclid z (pos 86400000000)
day_from (pos a) h = omega (arith, ints)
day_from (negsuc a) h = omega (arith, ints)

day_to : (z : ℤ) → z ≤ℤ pos 253402300799999999 → int_div_euclid z (pos 86400000000) ≤ℤ pos 2932896
day_to (pos a) h = omega (arith, ints)
day_to (negsuc a) h = omega (arith, ints)

time_within : (z : ℤ) → unsigned_abs (int_rem_euclid z (pos 86400000000)) < 86400000000
time_within (pos a) = omega arith
time_within (negsuc a) = omega arith

-- a date and a time of day that show this
pub record IsShownBy (local : LocalTime) : Type 0 where
  pub date : Date
  pub time : Time
  pub year : date.year ≡ pos local.year
  pub month : date.month ≡ local.month
  pub day : date.day ≡ local.day
  pub hour : time.hour ≡ local.hour
  pub minute : time.minute ≡ local.minute
  pub second : time.second ≡ local.second

pub shows : (stamp : Stamp) → IsValidStamp stamp → IsShownBy (local_time stamp)
unfolding local_time
shows stamp valid =
    let on = date_on (day_of stamp) (day_from (local_of stamp) valid.begins) (day_to (local_of stamp) valid.ends) in
    let low : negsuc 719527 ≤ℤ epoch_day on.date = omega (arith, ints, on.is_day, day_from (local_of stamp) valid.begins) in
    let from = year_from on.date low in
    let less = time_within (local_of stamp) in
    record {
      date = on.date;
      time = record {
        hour = micros_of_day stamp / 3600000000;
        minute = micros_of_day stamp / 60000000 % 60;
        second = micros_of_day stamp / 1000000 % 60;
        subsec_nanosecond = 0;
        hour_in = omega arith;
        minute_in = omega arith;
        second_in = omega arith;
        subsec_in = omega arith;
      };
      year = sym (year_of-is on.date from) ∙ ap (λ (z : ℤ). pos (year_of z)) on.is_day;
      month = sym (month_of-is on.date from) ∙ ap month_of on.is_day;
      day = sym (day_of_month-is on.date from) ∙ ap day_of_month on.is_day;
      hour = refl;
      minute = refl;
      second = refl;
    }
