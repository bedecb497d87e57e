-- Keys and values of key=value pairs (syslog-ng's administration guide, "Parsing key=value pairs").
use Rattle.std.specs.Prelude.{ℕ, ◌+◌, ◌==◌, ◌&&◌, ◌||◌, not, nat_le, nat_eq, Bool, true, false, if◌then◌else◌, List, [], ◌∷◌, ◌++◌, take, drop, Option, None, Some}
use Rattle.std.specs.List.{prefix_len, starts_with}
use Rattle.sg_msg.specs.Priority.{has_at}

-- a letter, a digit, `_`, `.` or `-`
abbrev pub is_key_byte : ℕ → Bool
is_key_byte b =
    (nat_le 97 b && nat_le b 122) || (nat_le 65 b && nat_le b 90) || (nat_le 48 b && nat_le b 57)
    || (b == 95 || (b == 46 || b == 45))

abbrev pub key_len : List ℕ → ℕ
key_len text = prefix_len is_key_byte text

-- a space, tab, CR or LF
abbrev pub is_blank : ℕ → Bool
is_blank b = (b == 32 || b == 9) || (b == 13 || b == 10)

-- how many bytes a value without quotes has: it ends before a blank or the pair separator, or with the text
abbrev pub plain_len : List ℕ → List ℕ → ℕ
plain_len separator [] = 0
plain_len separator (b ∷ text) =
    if is_blank b || starts_with nat_eq (b ∷ text) separator then 0
    else 1 + plain_len separator text

-- the byte is this mark, and no backslash stands before it
abbrev pub is_bare : Bool → ℕ → ℕ → Bool
is_bare escaped b mark = not escaped && b == mark

-- the place of the closing quote, where a backslash may stand before the text
abbrev pub quote_from : Bool → ℕ → List ℕ → Option ℕ
quote_from escaped place [] = None
quote_from escaped place (b ∷ text) =
    if is_bare escaped b 34 then Some place else quote_from (is_bare escaped b 92) (place + 1) text

-- the number of bytes between the quotes, where the text begins with a value in quotes
abbrev pub quoted_len : List ℕ → Option ℕ
quoted_len text = if has_at text 0 34 then quote_from false 0 (drop 1 text) else None

-- what a byte adds to the value, where a backslash stands before it, or none: a backslash makes a quote or a backslash stand for
-- itself, and is itself before another byte
abbrev pub unescaped_byte : Bool → ℕ → List ℕ
unescaped_byte true b = if b == 34 || b == 92 then b ∷ [] else 92 ∷ b ∷ []
unescaped_byte false b = if b == 92 then [] else b ∷ []

-- what the text between quotes says, where a backslash may stand before it
abbrev pub unescaped_from : Bool → List ℕ → List ℕ
unescaped_from escaped [] = []
unescaped_from escaped (b ∷ text) =
    unescaped_byte escaped b ++ unescaped_from (is_bare escaped b 92) text

-- the value at the front of a text, by the number of bytes between its quotes
abbrev pub front_value : List ℕ → Option ℕ → List ℕ → List ℕ
front_value separator None text = take (plain_len separator text) text
front_value separator (Some len) text = unescaped_from false (take len (drop 1 text))

-- and how many bytes it takes
abbrev pub value_len : List ℕ → Option ℕ → List ℕ → ℕ
value_len separator None text = plain_len separator text
value_len separator (Some len) text = len + 2
