-- The numbers that words say.
use Rattle.std.specs.Prelude.{ℕ, ◌+◌, ◌-◌, ◌*◌, ◌&&◌, ◌==◌, nat_le, if◌then◌else◌, List, [], ◌∷◌, Option, Some, None}

-- the most rounds of a run, 2 ^ 36
abbrev pub most_rounds : ℕ
most_rounds = 68719476736

-- the most records of a drill
abbrev pub most_records : ℕ
most_records = 100000

-- the number with a digit more, unless it passes the highest one
abbrev pub with_digit : (most n : ℕ) → ℕ → Option ℕ
with_digit most n b = if nat_le 48 b && nat_le b 57
    then (if nat_le (n * 10 + (b - 48)) most then Some (n * 10 + (b - 48)) else None) else None

abbrev pub digits_behind : ℕ → Option ℕ → List ℕ → Option ℕ
digits_behind most None text = None
digits_behind most (Some n) [] = Some n
digits_behind most (Some n) (b ∷ text) = digits_behind most (with_digit most n b) text

-- decimal digits without a leading zero, from 1 to the highest number
abbrev pub number_of : ℕ → List ℕ → Option ℕ
number_of most [] = None
number_of most (b ∷ text) = if b == 48 then None else digits_behind most (Some 0) (b ∷ text)
