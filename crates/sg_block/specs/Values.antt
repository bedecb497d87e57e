-- The values of variables and arguments, and strings that name them.
use Rattle.std.specs.Prelude.{◌≡◌, ℕ, zero, suc, ◌+◌, ◌<◌, ◌≤◌, ◌==◌, if◌then◌else◌, List, [], ◌∷◌, ◌++◌, length, take, drop, Option, Some, None}
use Rattle.std.specs.List.{prefix_len}
use Rattle.std.specs.Option.{option_map}
use Rattle.std.specs.Ordering.{nat_cmp}
use Rattle.std.specs.Cmp.Lexicographic.{slice_cmp}
use Rattle.std.specs.FinMap as map
use Rattle.sg_lex.specs.declared.token.Token.{Token}
use Rattle.sg_lex.specs.Tokens.{is_name_byte, begins_with}
use Rattle.sg_block.specs.declared.values.Replaced.{Replaced}
use Rattle.sg_block.specs.declared.values.Replaced.TheVariants.{Unknown, TooLong, Text}

-- what names stand for
abbrev pub Values : Type 0
Values = map.FinMap (slice_cmp nat_cmp) (List Token)

abbrev pub first_of : Option (List Token) → Option (List Token) → Option (List Token)
first_of None other = other
first_of (Some value) other = Some value

-- the arguments in reach come before the variables
abbrev pub reached : Values → Values → List ℕ → Option (List Token)
reached scope variables name = first_of (map.get scope name) (map.get variables name)

-- the texts of tokens, each behind a space
abbrev pub spaced : List Token → List ℕ
spaced [] = []
spaced (token ∷ tokens) = (32 ∷ token.text) ++ spaced tokens

-- with one space between them
abbrev pub joined : List Token → List ℕ
joined [] = []
joined (token ∷ tokens) = token.text ++ spaced tokens

-- the bytes of a name at the front that a backtick closes, 0 where none stands there
abbrev pub tick_length : List ℕ → ℕ
tick_length bytes = if begins_with 96 (drop (prefix_len is_name_byte bytes) bytes)
    then prefix_len is_name_byte bytes else 0

-- the bytes of a variable's name, where the first byte is a backtick that begins one: else 0
abbrev pub variable_length : List ℕ → ℕ
variable_length [] = 0
variable_length (b ∷ bytes) = if b == 96 then tick_length bytes else 0

abbrev pub text_behind : Option (List Token) → Option (List ℕ) → Option (List ℕ)
text_behind None rest = None
text_behind (Some value) rest = option_map (λ bytes. joined value ++ bytes) rest

-- a string with each name between backticks replaced by its value, once so many bytes more of a name are passed over; none where a name has no
-- value
abbrev pub replaced : Values → Values → ℕ → List ℕ → Option (List ℕ)
replaced scope variables skip [] = Some []
replaced scope variables (suc skip) (b ∷ bytes) = replaced scope variables skip bytes
replaced scope variables zero (b ∷ bytes) =
    if variable_length (b ∷ bytes) == 0
    then option_map (λ text. b ∷ text) (replaced scope variables zero bytes)
    else text_behind (reached scope variables (take (variable_length (b ∷ bytes)) bytes))
    (replaced scope variables (variable_length (b ∷ bytes) + 1) bytes)

-- the text, where there is room for it; else more bytes than there is room for
abbrev pub IsCapped : ℕ → List ℕ → List ℕ → Type 0
IsCapped room made kept = (length made ≤ room → kept ≡ made)
    × (room < length made → room < length kept)

abbrev pub IsReplaced : ℕ → Option (List ℕ) → Replaced → Type 0
IsReplaced room None Unknown = Unit {0}
IsReplaced room None TooLong = ⊥
IsReplaced room None (Text text) = ⊥
IsReplaced room (Some made) Unknown = ⊥
IsReplaced room (Some made) TooLong = room < length made
IsReplaced room (Some made) (Text text) = (text ≡ made) × (length made ≤ room)
