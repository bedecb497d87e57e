-- What a token is.
use Rattle.std.specs.Prelude.{ℕ, ◌+◌, ◌-◌, ◌*◌, ◌^◌, Bool, true, false, ◌==◌, ◌&&◌, ◌||◌, nat_lt, nat_le, if◌then◌else◌, List, [], ◌∷◌, codes, bytes_eq}
use Rattle.sg_lex.specs.declared.place.Line.{Line}
use Rattle.sg_lex.specs.declared.token.Token.{Token}
use Rattle.sg_lex.specs.declared.token.TokenKind.{TokenKind}
use Rattle.sg_lex.specs.declared.token.TokenKind.TheVariants.{Word, Str, Sym, Op, At, Tick}

abbrev pub is_word_kind : TokenKind → Bool
is_word_kind Word = true
is_word_kind Str = false
is_word_kind Sym = false
is_word_kind Op = false
is_word_kind At = false
is_word_kind Tick = false

abbrev pub is_string_kind : TokenKind → Bool
is_string_kind Word = false
is_string_kind Str = true
is_string_kind Sym = false
is_string_kind Op = false
is_string_kind At = false
is_string_kind Tick = false

abbrev pub is_symbol_kind : TokenKind → Bool
is_symbol_kind Word = false
is_symbol_kind Str = false
is_symbol_kind Sym = true
is_symbol_kind Op = false
is_symbol_kind At = false
is_symbol_kind Tick = false

abbrev pub is_operator_kind : TokenKind → Bool
is_operator_kind Word = false
is_operator_kind Str = false
is_operator_kind Sym = false
is_operator_kind Op = true
is_operator_kind At = false
is_operator_kind Tick = false

unfoldable pub is_word : Token → Bool
is_word token = is_word_kind token.kind

unfoldable pub is_string : Token → Bool
is_string token = is_string_kind token.kind

unfoldable pub is_operator : Token → Bool
is_operator token = is_operator_kind token.kind

-- NAME: a word or a string
unfoldable pub is_name : Token → Bool
is_name token = is_word_kind token.kind || is_string_kind token.kind

abbrev pub is_byte : ℕ → List ℕ → Bool
is_byte byte [] = false
is_byte byte (only ∷ []) = only == byte
is_byte byte (first ∷ second ∷ rest) = false

-- the symbol of this byte
unfoldable pub is_symbol : ℕ → Token → Bool
is_symbol byte token = is_symbol_kind token.kind && is_byte byte token.text

unfoldable pub is_dots : Token → Bool
is_dots token = is_symbol_kind token.kind && bytes_eq token.text (codes "..")

-- where a token stands that has this place in the list
abbrev pub line_of : Token → ℕ → Line
line_of token at = record { file = token.file; line = token.line; at = at }

-- `_` counts as `-`
abbrev pub dashed : ℕ → ℕ
dashed b = if b == 95 then 45 else b

-- the same option or keyword, the second one written with dashes
abbrev pub same_keyword : List ℕ → List ℕ → Bool
same_keyword [] [] = true
same_keyword [] (c ∷ word) = false
same_keyword (b ∷ text) [] = false
same_keyword (b ∷ text) (c ∷ word) = (dashed b == c) && same_keyword text word

-- a word that is this keyword
unfoldable pub is_keyword : List ℕ → Token → Bool
is_keyword word token = is_word token && same_keyword token.text word

-- decimal digits of a value below 2 ^ 63, behind those of n
abbrev pub digits_from : ℕ → List ℕ → Bool
digits_from n [] = true
digits_from n (b ∷ text) =
    if nat_le 48 b && nat_le b 57 then (if nat_lt (n * 10 + (b - 48)) (2 ^ 63)
    then digits_from (n * 10 + (b - 48)) text else false) else false

abbrev pub is_number : List ℕ → Bool
is_number [] = false
is_number (b ∷ text) = digits_from 0 (b ∷ text)

abbrev pub is_truth : List ℕ → Bool
is_truth text =
    bytes_eq text (codes "yes") || bytes_eq text (codes "on") || bytes_eq text (codes "1")
    || bytes_eq text (codes "no") || bytes_eq text (codes "off") || bytes_eq text (codes "0")
