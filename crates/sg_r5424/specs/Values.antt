-- The values of parameters, and how they are written (RFC 5424, section 6.3.3: PARAM-VALUE).
use Rattle.std.specs.Prelude.{◌≡◌, ◌<◌, ℕ, ◌+◌, ◌==◌, ◌&&◌, not, Bool, true, false, if◌then◌else◌, List, [], ◌∷◌, ◌++◌, length, take, drop, Option, None, Some}
use Rattle.std.specs.List.{AllPass}
use Rattle.sg_msg.specs.Sets.{is_escaped}

-- A text spells a value: a backslash makes the byte behind it stand for itself, where that is a quote, a backslash or a closing
-- bracket. Before another byte a backslash is itself. The three bytes stand in no other way.
pub data SpellsValue : List ℕ → List ℕ → Type 0 where
  none : SpellsValue [] []
  escaped : (b : ℕ) (text value : List ℕ) → is_escaped b ≡ true → SpellsValue text value
      → SpellsValue (92 ∷ b ∷ text) (b ∷ value)
  backslash : (b : ℕ) (text value : List ℕ) → is_escaped b ≡ false → SpellsValue text value
      → SpellsValue (92 ∷ b ∷ text) (92 ∷ b ∷ value)
  plain : (b : ℕ) (text value : List ℕ) → is_escaped b ≡ false → SpellsValue text value
      → SpellsValue (b ∷ text) (b ∷ value)

-- a value at the front, up to the quote that closes it
pub record IsValue (text value rest : List ℕ) : Type 0 where
  pub spelled : List ℕ
  pub is_text : text ≡ spelled ++ 34 ∷ rest
  pub spells : SpellsValue spelled value

-- a byte that stands for itself
abbrev pub is_plain : ℕ → Bool
is_plain b = not (is_escaped b)

-- such bytes stand before this place, and a quote there
pub record EndsPlain (text : List ℕ) (place : ℕ) : Type 0 where
  pub within : place < length text
  pub plain : AllPass is_plain (take place text)
  pub quote : drop place text ≡ 34 ∷ drop (place + 1) text

-- the byte is this mark, and no backslash stands before it
abbrev pub is_bare : Bool → ℕ → ℕ → Bool
is_bare behind b mark = not behind && b == mark

-- the place of the closing quote, where a backslash may stand before the text
abbrev pub quote_from : Bool → ℕ → List ℕ → Option ℕ
quote_from behind place [] = None
quote_from behind place (b ∷ text) =
    if is_bare behind b 34 then Some place
    else (if is_bare behind b 93 then None else quote_from (is_bare behind b 92) (place + 1) text)

-- what a byte adds to the value, where a backslash stands before it, or none
abbrev pub unescaped_byte : Bool → ℕ → List ℕ
unescaped_byte true b = if is_escaped b then b ∷ [] else 92 ∷ b ∷ []
unescaped_byte false b = if b == 92 then [] else b ∷ []

-- what a text spells, where a backslash may stand before it
abbrev pub unescaped_from : Bool → List ℕ → List ℕ
unescaped_from behind [] = []
unescaped_from behind (b ∷ text) = unescaped_byte behind b
    ++ unescaped_from (is_bare behind b 92) text
