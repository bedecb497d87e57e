-- What a token is, for the forms that are looked for.
use Rattle.std.specs.Prelude.{ℕ, ◌+◌, Bool, false, ◌==◌, ◌&&◌, ◌||◌, List, [], ◌∷◌, length, codes, slice_get}
use Rattle.std.specs.Option.{option_map_or}
use Rattle.std.specs.Str.{bytes_eq}
use Rattle.sg_lex.specs.declared.token.Token.{Token}
use Rattle.sg_lex.specs.declared.token.TokenKind.{TokenKind}
use Rattle.sg_lex.specs.declared.token.TokenKind.TheVariants.{Word, Str, Sym, Op, At, Tick}
use Rattle.sg_block.specs.declared.token.FileLine.{FileLine}

-- kinds are told apart by numbers
abbrev pub kind_number : TokenKind → ℕ
kind_number Word = 0
kind_number Str = 1
kind_number Sym = 2
kind_number Op = 3
kind_number At = 4
kind_number Tick = 5

abbrev pub is_of_kind : TokenKind → Token → Bool
is_of_kind kind token = kind_number token.kind == kind_number kind

abbrev pub is_word : Token → Bool
is_word token = is_of_kind Word token

abbrev pub is_string : Token → Bool
is_string token = is_of_kind Str token

abbrev pub is_at : Token → Bool
is_at token = is_of_kind At token

abbrev pub is_tick : Token → Bool
is_tick token = is_of_kind Tick token

-- a Word or a Str
abbrev pub is_name : Token → Bool
is_name token = is_word token || is_string token

abbrev pub is_byte : ℕ → List ℕ → Bool
is_byte c [] = false
is_byte c (b ∷ []) = b == c
is_byte c (b ∷ d ∷ bytes) = false

-- the symbol of one byte
abbrev pub is_symbol : ℕ → Token → Bool
is_symbol c token = is_of_kind Sym token && is_byte c token.text

-- a use may stand behind `{`, `}` and `;`
abbrev pub is_front : Token → Bool
is_front token = is_symbol 123 token || is_symbol 125 token || is_symbol 59 token

abbrev pub is_block_word : Token → Bool
is_block_word token = is_word token && bytes_eq token.text (codes "block")

abbrev pub is_type_name : List ℕ → Bool
is_type_name word =
    (bytes_eq word (codes "root") || bytes_eq word (codes "source"))
    || (bytes_eq word (codes "destination") || bytes_eq word (codes "filter"))
    || (bytes_eq word (codes "rewrite") || bytes_eq word (codes "log"))
    || (bytes_eq word (codes "parser") || bytes_eq word (codes "options"))

-- what a block may stand for
abbrev pub is_block_type : Token → Bool
is_block_type token = is_word token && is_type_name token.text

-- the bytes of the token's text and one more
abbrev pub token_size : Token → ℕ
token_size token = length token.text + 1

abbrev pub size_of : List Token → ℕ
size_of [] = 0
size_of (token ∷ tokens) = token_size token + size_of tokens

-- where a token stands
abbrev pub line_of : Token → FileLine
line_of token = record { file = token.file; line = token.line }

-- the text of the token at a place, and where it stands
abbrev pub text_at : List Token → ℕ → List ℕ
text_at tokens place = option_map_or (λ token. token.text) (slice_get tokens place) []

abbrev pub line_at : List Token → ℕ → FileLine
line_at tokens place = option_map_or line_of (slice_get tokens place)
    (record { file = 0; line = 0 })
