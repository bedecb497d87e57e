-- Numbers as options write them.
use Rattle.std.specs.Prelude.{ℕ, ◌+◌, ◌-◌, ◌*◌, ◌&&◌, ◌||◌, ◌==◌, nat_le, nat_lt, if◌then◌else◌, List, [], ◌∷◌, length, Option, Some, None}
use Rattle.sg_options.specs.declared.numbers.Range.{Range}

-- the number behind a digit more, none where the byte is no digit of that base or the number passes the highest one
abbrev pub number_behind : ℕ → ℕ → ℕ → ℕ → Option ℕ
number_behind base high n b =
    if nat_le 48 b && nat_lt b (48 + base)
    then (if nat_le (n * base + (b - 48)) high then Some (n * base + (b - 48)) else None) else None

abbrev pub digits_behind : ℕ → ℕ → Option ℕ → List ℕ → Option ℕ
digits_behind base high None text = None
digits_behind base high (Some n) [] = Some n
digits_behind base high (Some n) (b ∷ text) = digits_behind base high (number_behind base high n b)
    text

-- the number that these digits spell
abbrev pub number_to : ℕ → ℕ → List ℕ → Option ℕ
number_to base high [] = None
number_to base high (b ∷ text) = digits_behind base high (Some 0) (b ∷ text)

abbrev pub at_least : ℕ → Option ℕ → Option ℕ
at_least low None = None
at_least low (Some n) = if nat_le low n then Some n else None

-- a decimal number of the range
abbrev pub number_in : Range → List ℕ → Option ℕ
number_in range text = at_least range.low (number_to 10 range.high text)

-- the mode of a file: three or four octal digits
abbrev pub mode_of : List ℕ → Option ℕ
mode_of text = if (length text == 3) || (length text == 4) then number_to 8 4095 text else None
