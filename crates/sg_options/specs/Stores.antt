-- The names of the daemon's own stores.
use Rattle.std.specs.Prelude.{ℕ, ◌/◌, ◌%◌, ◌+◌, Bool, ◌||◌, ◌==◌, nat_lt, if◌then◌else◌, List, [], ◌∷◌, ◌++◌, codes}
use Rattle.std.specs.Char.{is_ascii_alphanumeric}

-- a letter, a digit, `-`, `.` or `,`
abbrev pub is_plain : ℕ → Bool
is_plain b = is_ascii_alphanumeric b || (b == 45) || (b == 46) || (b == 44)

-- in lower case
abbrev pub hex_digit : ℕ → ℕ
hex_digit n = if nat_lt n 10 then 48 + n else 87 + n

-- another byte is `_` and its two hexadecimal digits
abbrev pub escaped_byte : ℕ → List ℕ
escaped_byte b = if is_plain b then b ∷ [] else 95 ∷ hex_digit (b / 16) ∷ hex_digit (b % 16) ∷ []

abbrev pub escaped : List ℕ → List ℕ
escaped [] = []
escaped (b ∷ bytes) = escaped_byte b ++ escaped bytes

-- the store of the position in a file
abbrev pub position_name : List ℕ → List ℕ
position_name path = codes "pos-" ++ escaped path

-- the store of a destination's reliable disk-buffer in a directory, by what the destination is
abbrev pub buffer_name : List ℕ → List ℕ → List ℕ
buffer_name directory destination = directory ++ (codes "/queue-" ++ escaped destination)

-- the same of one that isn't reliable
abbrev pub overflow_name : List ℕ → List ℕ → List ℕ
overflow_name directory destination = directory ++ (codes "/over-" ++ escaped destination)
