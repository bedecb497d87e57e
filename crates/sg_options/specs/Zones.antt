-- Time zones as options write them: fixed offsets.
use Rattle.std.specs.Prelude.{ℕ, ◌+◌, ◌*◌, ◌&&◌, ◌==◌, if◌then◌else◌, List, length, take, drop, slice_index, Option, Some, None, ℤ, pos, neg_ℤ}
use Rattle.sg_options.specs.Numbers.{number_to}

-- so many minutes east of UTC, behind `+`, or west of it, behind `-`
abbrev pub offset_of : ℕ → ℕ → Option ℤ
offset_of sign minutes = if sign == 43 then Some (pos minutes)
    else (if sign == 45 then Some (neg_ℤ (pos minutes)) else None)

abbrev pub clock_offset : ℕ → Option ℕ → Option ℕ → Option ℤ
clock_offset sign None minutes = None
clock_offset sign (Some hours) None = None
clock_offset sign (Some hours) (Some minutes) = offset_of sign (hours * 60 + minutes)

-- +hh:mm or -hh:mm, of hours to 23 and minutes to 59, in minutes east of UTC
abbrev pub zone_of : List ℕ → Option ℤ
zone_of text =
    if (length text == 6) && (slice_index text 3 == 58)
    then clock_offset (slice_index text 0) (number_to 10 23 (take 2 (drop 1 text)))
    (number_to 10 59 (take 2 (drop 4 text)))
    else None
