-- What a text says at its front: the ISO and BSD stamps that are read.
use Rattle.std.specs.Prelude.{◌≡◌, ℕ, ◌+◌, ◌-◌, ◌*◌, ◌/◌, ◌<◌, ◌≤◌, ◌⊎◌, ◌&&◌, ◌==◌, if◌then◌else◌, List, [], ◌∷◌, ◌++◌, length, All, codes, ℤ, pos, neg_ℤ, ◌+ℤ◌, ◌-ℤ◌, ◌*ℤ◌, ◌≤ℤ◌, unsigned_abs}
use Rattle.jiff_core.specs.Calendar.{IsBetween}
use Rattle.jiff_core.specs.Date.{epoch_day}
use Rattle.jiff_core.specs.Time.{time_seconds}
use Rattle.jiff_core.specs.declared.civil.date.Date.{Date}
use Rattle.jiff_core.specs.declared.civil.time.Time.{Time}
use Rattle.sg_time.specs.declared.stamp.Stamp.{Stamp}
use Rattle.sg_time.specs.declared.local.LocalTime.{LocalTime}
use Rattle.sg_time.specs.Stamp.{local_of}
use Rattle.sg_time.specs.Text.{digits, date_text, clock_text, minutes_text, month_name}

-- a date of the calendar as YYYY-MM-DD
abbrev pub date_form : Date → List ℕ
date_form date = date_text (unsigned_abs date.year) date.month date.day

-- a time of day as hh:mm:ss
abbrev pub clock_form : Time → List ℕ
clock_form time = clock_text time.hour time.minute time.second

abbrev pub IsDigit : ℕ → Type 0
IsDigit b = (48 ≤ b) × (b ≤ 57)

-- what digits of a fraction come to, where the first counts so many microseconds and each next a tenth of that
abbrev pub micros_from : ℕ → List ℕ → ℕ
micros_from unit [] = 0
micros_from unit (b ∷ bs) = (b - 48) * unit + micros_from (unit / 10) bs

-- a fraction of a second: nothing, or a dot and 1 to 6 digits
abbrev pub IsFraction : List ℕ → ℕ → Type 0
IsFraction text micros =
    ((text ≡ []) × (micros ≡ 0))
    ⊎ ((ds : List ℕ) × ((text ≡ codes "." ++ ds) × All IsDigit ds × (1 ≤ length ds)
    × (length ds ≤ 6) × (micros ≡ micros_from 100000 ds)))

-- so many minutes east of UTC: Z, +hh:mm or -hh:mm, with hours to 23 and minutes to 59
pub data IsZone : List ℕ → ℤ → Type 0 where
  zulu : IsZone (codes "Z") (pos 0)
  east : (minutes : ℕ) → minutes < 1440 → IsZone (codes "+" ++ minutes_text minutes) (pos minutes)
  west : (minutes : ℕ) → minutes < 1440
      → IsZone (codes "-" ++ minutes_text minutes) (neg_ℤ (pos minutes))

-- the local time of the stamp
abbrev pub IsMoment : Stamp → Date → Time → ℕ → Type 0
IsMoment stamp date time micros = local_of stamp
    ≡ ((epoch_day date *ℤ pos 86400 +ℤ pos (time_seconds time)) *ℤ pos 1000000) +ℤ pos micros

-- The text begins with an ISO stamp of so many bytes: a date of the years 1 to 9998, a time of day, a fraction and an offset.
pub record IsIso (text : List ℕ) (stamp : Stamp) (len : ℕ) : Type 0 where
  pub date : Date
  pub years : IsBetween (pos 1) (pos 9998) date.year
  pub time : Time
  pub micros : ℕ
  pub fraction : List ℕ
  pub is_fraction : IsFraction fraction micros
  pub zone : List ℕ
  pub is_zone : IsZone zone stamp.offset
  pub rest : List ℕ
  pub is_text : text ≡ date_form date ++ codes "T" ++ clock_form time
      ++ (fraction ++ (zone ++ rest))
  pub is_len : length text ≡ len + length rest
  pub moment : IsMoment stamp date time micros

-- a day of the month in two places: two digits, or a space and one digit
abbrev pub IsDay : List ℕ → ℕ → Type 0
IsDay text day = (text ≡ digits 2 day) ⊎ ((day < 10) × (text ≡ codes " " ++ digits 1 day))

-- The year of a stamp that says only its month: that of the receipt, but around New Year the one before or after it.
abbrev pub year_by_receipt : LocalTime → ℕ → ℤ
year_by_receipt received month =
    if (month == 12) && (received.month == 1) then pos received.year -ℤ pos 1
    else (if (month == 1)
    && (received.month == 12) then pos received.year +ℤ pos 1 else pos received.year)

-- The text begins with a BSD stamp of so many bytes, received at this local time and offset.
pub record IsBsd (text : List ℕ) (received : LocalTime) (offset : ℤ) (stamp : Stamp)
    (len : ℕ) : Type 0 where
  pub date : Date
  pub years : pos 0 ≤ℤ date.year
  pub by_receipt : date.year ≡ year_by_receipt received date.month
  pub day : List ℕ
  pub is_day : IsDay day date.day
  pub time : Time
  pub rest : List ℕ
  pub is_text : text ≡ month_name date.month
      ++ (codes " " ++ (day ++ (codes " " ++ clock_form time ++ rest)))
  pub is_len : length text ≡ len + length rest
  pub same_offset : stamp.offset ≡ offset
  pub moment : IsMoment stamp date time 0
