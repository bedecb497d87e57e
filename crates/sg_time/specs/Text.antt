-- The texts of stamps: ISO 8601 as RFC 3339 section 5.6 profiles it, and the TIMESTAMP of RFC 3164 section 4.1.2.
use Rattle.std.specs.Prelude.{ℕ, zero, suc, ◌+◌, ◌-◌, ◌/◌, ◌%◌, ◌^◌, nat_lt, if◌then◌else◌, List, [], ◌∷◌, ◌++◌, take, codes, ℤ, pos, negsuc}
use Rattle.std.specs.List.{slice_index_or}
use Rattle.sg_time.specs.declared.stamp.Stamp.{Stamp}
use Rattle.sg_time.specs.declared.local.LocalTime.{LocalTime}
use Rattle.sg_time.specs.Local.{local_time}

-- the last so many decimal digits of a number
abbrev pub digits : ℕ → ℕ → List ℕ
digits zero n = []
digits (suc k) n = (48 + n / 10 ^ k % 10) ∷ digits k n

-- YYYY-MM-DD
abbrev pub date_text : ℕ → ℕ → ℕ → List ℕ
date_text year month day = digits 4 year ++ codes "-" ++ digits 2 month ++ codes "-" ++ digits 2 day

-- hh:mm:ss
abbrev pub clock_text : ℕ → ℕ → ℕ → List ℕ
clock_text hour minute second =
    digits 2 hour ++ codes ":" ++ digits 2 minute ++ codes ":" ++ digits 2 second

-- a dot and so many digits of a second's fraction, the rest cut off; nothing for 0 digits
abbrev pub fraction_text : ℕ → ℕ → List ℕ
fraction_text zero microsecond = []
fraction_text (suc n) microsecond = codes "." ++ take (suc n) (digits 6 microsecond)

-- hh:mm of so many minutes
abbrev pub minutes_text : ℕ → List ℕ
minutes_text minutes = digits 2 (minutes / 60) ++ codes ":" ++ digits 2 (minutes % 60)

-- +hh:mm or -hh:mm, and +00:00 for 0
abbrev pub offset_text : ℤ → List ℕ
offset_text (pos n) = codes "+" ++ minutes_text n
offset_text (negsuc n) = codes "-" ++ minutes_text (suc n)

abbrev pub month_names : List (List ℕ)
month_names = codes "Jan" ∷ codes "Feb" ∷ codes "Mar" ∷ codes "Apr" ∷ codes "May" ∷ codes "Jun"
    ∷ codes "Jul" ∷ codes "Aug" ∷ codes "Sep" ∷ codes "Oct" ∷ codes "Nov" ∷ codes "Dec" ∷ []

-- the name of a month, from 1
abbrev pub month_name : ℕ → List ℕ
month_name month = slice_index_or month_names (month - 1) []

-- a day of the month in two places: a space stands before a single digit
abbrev pub day_text : ℕ → List ℕ
day_text day = if nat_lt day 10 then codes " " ++ digits 1 day else digits 2 day

-- YYYY-MM-DDThh:mm:ss, the fraction and the offset
abbrev pub iso_local_text : LocalTime → ℤ → ℕ → List ℕ
iso_local_text local offset count = date_text local.year local.month local.day ++ codes "T"
    ++ clock_text local.hour local.minute local.second ++ fraction_text count local.microsecond
    ++ offset_text offset

-- the ISO text of a stamp with so many digits of the fraction
unfoldable pub iso_stamp_text : Stamp → ℕ → List ℕ
iso_stamp_text stamp count = iso_local_text (local_time stamp) stamp.offset count

-- Mmm dd hh:mm:ss and the fraction
abbrev pub bsd_local_text : LocalTime → ℕ → List ℕ
bsd_local_text local count = month_name local.month ++ codes " " ++ day_text local.day ++ codes " "
    ++ clock_text local.hour local.minute local.second ++ fraction_text count local.microsecond

-- the BSD text of a stamp with so many digits of the fraction
unfoldable pub bsd_stamp_text : Stamp → ℕ → List ℕ
bsd_stamp_text stamp count = bsd_local_text (local_time stamp) count
