-- What a calendar and a clock show at a stamp's offset: the proleptic Gregorian calendar (RFC 3339 section 5, ISO 8601), with no leap seconds.
use Rattle.std.specs.Prelude.{ℕ, zero, suc, ◌+◌, ◌/◌, ◌%◌, ◌<◌, Bool, if◌then◌else◌, ℤ, pos, ◌-ℤ◌, unsigned_abs, int_le}
use Rattle.std.specs.Int.{int_div_euclid, int_rem_euclid}
use Rattle.jiff_core.specs.Calendar.{days_from_civil, IsCivilDate}
use Rattle.sg_time.specs.declared.stamp.Stamp.{Stamp}
use Rattle.sg_time.specs.declared.local.LocalTime.{LocalTime}
use Rattle.sg_time.specs.Stamp.{local_of}

-- the number of the local day, 0 being 1970-01-01
abbrev pub day_of : Stamp → ℤ
day_of stamp = int_div_euclid (local_of stamp) (pos 86400000000)

-- the microseconds since local midnight
abbrev pub micros_of_day : Stamp → ℕ
micros_of_day stamp = unsigned_abs (int_rem_euclid (local_of stamp) (pos 86400000000))

-- the last number below the limit that passes the test, or 0
unfoldable pub last_below : (ℕ → Bool) → ℕ → ℕ
last_below passes zero = 0
last_below passes (suc n) = if passes n then n else last_below passes n

-- the year of a day is the last whose first day isn't after it
unfoldable pub year_of : ℤ → ℕ
year_of day = last_below (λ y. int_le (days_from_civil (pos y) 1 1) day) 10000

-- its month is the last of that year whose first day isn't after it
unfoldable pub month_of : ℤ → ℕ
month_of day = last_below (λ m. int_le (days_from_civil (pos (year_of day)) m 1) day) 13

-- and its day of the month is counted from the month's first day
unfoldable pub day_of_month : ℤ → ℕ
day_of_month day = unsigned_abs (day -ℤ days_from_civil (pos (year_of day)) (month_of day) 1) + 1

-- the local date and the time of that day
unfoldable pub local_time : Stamp → LocalTime
local_time stamp = record {
  year = year_of (day_of stamp);
  month = month_of (day_of stamp);
  day = day_of_month (day_of stamp);
  hour = micros_of_day stamp / 3600000000;
  minute = micros_of_day stamp / 60000000 % 60;
  second = micros_of_day stamp / 1000000 % 60;
  microsecond = micros_of_day stamp % 1000000;
}

-- the calendar has the date and a clock shows the time
pub record IsShown (local : LocalTime) : Type 0 where
  pub date : IsCivilDate (pos local.year) local.month local.day
  pub hour : local.hour < 24
  pub minute : local.minute < 60
  pub second : local.second < 60
  pub microsecond : local.microsecond < 1000000
