-- The tokens of a configuration's text, as syslog-ng's administration guide writes configurations: words, strings in double quotes with
-- escapes and in single quotes without, comments from `#` on, directives `@word` and variables between backticks.
use Rattle.std.specs.Prelude.{◌≡◌, ℕ, zero, suc, ◌+◌, ◌-◌, ◌*◌, Bool, false, ◌==◌, ◌&&◌, ◌||◌, not, nat_lt, if◌then◌else◌, List, [], ◌∷◌, length, take, drop, count_by, Option, Some, None, Result, Ok, Err, Vec}
use Rattle.std.specs.List.{prefix_len, position_or_len}
use Rattle.std.specs.Option.{option_map}
use Rattle.std.specs.Char.{is_ascii_alphanumeric, is_digit, digit_value}
use Rattle.std.specs.declared.alloc.Global.{Global}
use Rattle.sg_lex.specs.declared.quoted.Escape.{Escape}
use Rattle.sg_lex.specs.declared.quoted.Quoted.{Quoted}
use Rattle.sg_lex.specs.declared.piece.Lexeme.{Lexeme}
use Rattle.sg_lex.specs.declared.piece.Lexeme.TheVariants.{Gap, Spelled, OpenString, BadByte}
use Rattle.sg_lex.specs.declared.lexer.TextPosition.{TextPosition}
use Rattle.sg_lex.specs.declared.token.Token.{Token}
use Rattle.sg_lex.specs.declared.token.TokenKind.{TokenKind}
use Rattle.sg_lex.specs.declared.token.TokenKind.TheVariants.{Word, Str, Sym, Op, At, Tick}
use Rattle.sg_lex.specs.declared.token.LexFault.{LexFault}
use Rattle.sg_lex.specs.declared.token.LexFault.TheVariants.{OpenString as OpenStringAt, BadByte as BadByteAt, NoMemory}

-- space, tab, CR, LF
abbrev pub is_blank : ℕ → Bool
is_blank b = ((b == 32) || (b == 9)) || ((b == 13) || (b == 10))

-- letters, digits, `_`, `-`
abbrev pub is_name_byte : ℕ → Bool
is_name_byte b = is_ascii_alphanumeric b || ((b == 95) || (b == 45))

-- those, `+`, `/`
abbrev pub is_word_byte : ℕ → Bool
is_word_byte b = is_name_byte b || ((b == 43) || (b == 47))

abbrev pub begins_with : ℕ → List ℕ → Bool
begins_with c [] = false
begins_with c (b ∷ bytes) = b == c

-- whether a byte between the one before and those behind it may stand in a word: a dot may where it has no dot beside it
abbrev pub is_word_at : ℕ → ℕ → List ℕ → Bool
is_word_at before b bytes = is_word_byte b
    || ((b == 46) && (not (before == 46) && not (begins_with 46 bytes)))

-- the bytes of the longest word at the front, behind the byte before
abbrev pub word_length : ℕ → List ℕ → ℕ
word_length before [] = 0
word_length before (b ∷ bytes) = if is_word_at before b bytes then 1 + word_length b bytes else 0

-- the bytes before the first of this value, all where there is none
abbrev pub length_before : ℕ → List ℕ → ℕ
length_before c bytes = position_or_len (λ b. b == c) bytes

-- `\x` stands for the byte of the hexadecimal digits behind it, two where two stand there, and for `x` where none does
abbrev pub two_digits : ℕ → List ℕ → Escape
two_digits first [] = record { byte = first; count = 2 }
two_digits first (d ∷ bytes) = if is_digit d 16
    then (record { byte = first * 16 + digit_value d; count = 3 })
    else (record { byte = first; count = 2 })

abbrev pub hexadecimal : List ℕ → Escape
hexadecimal [] = record { byte = 120; count = 1 }
hexadecimal (d ∷ bytes) = if is_digit d 16 then two_digits (digit_value d) bytes
    else (record { byte = 120; count = 1 })

-- `\n`, `\r`, `\t`, `\a`, `\v` stand for LF, CR, tab and the bytes 7 and 11, and another byte for itself
abbrev pub escaped_letter : ℕ → ℕ
escaped_letter b =
    if b == 110 then 10
    else (if b == 114 then 13
    else (if b == 116 then 9
    else (if b == 97 then 7
    else (if b == 118 then 11
    else b))))

abbrev pub escape : List ℕ → Escape
escape [] = record { byte = 92; count = 0 }
escape (b ∷ bytes) = if b == 120 then hexadecimal bytes
    else (record { byte = escaped_letter b; count = 1 })

-- the same behind one byte of content that so many bytes spell, and behind bytes that are spelled already
abbrev pub quoted_behind : ℕ → ℕ → Quoted → Quoted
quoted_behind byte count quoted = record { text = byte ∷ quoted.text; count = count + quoted.count }

abbrev pub quoted_later : Quoted → Quoted
quoted_later quoted = record quoted { count = 1 + quoted.count }

-- the string in double quotes, behind its first quote, once so many bytes more of an escape are passed over: none where it isn't closed
abbrev pub double_quoted : ℕ → List ℕ → Option Quoted
double_quoted skip [] = None
double_quoted (suc skip) (b ∷ bytes) = option_map quoted_later (double_quoted skip bytes)
double_quoted zero (b ∷ bytes) =
    if b == 34 then Some (record { text = []; count = 1 })
    else (if b == 92 then option_map (quoted_behind (escape bytes).byte 1)
    (double_quoted (escape bytes).count bytes)
    else option_map (quoted_behind b 1) (double_quoted zero bytes))

-- the string in single quotes, behind its first quote
abbrev pub single_quoted : List ℕ → Option Quoted
single_quoted bytes =
    let count = length_before 39 bytes in
    if nat_lt count (length bytes) then Some (record { text = take count bytes; count = count + 1 })
    else None

abbrev pub string : Option Quoted → Lexeme
string None = OpenString
string (Some quoted) = Spelled Str quoted.text (1 + quoted.count)

-- `@` and a word
abbrev pub directive : ℕ → List ℕ → Lexeme
directive count bytes = if count == 0 then BadByte else Spelled At (take count bytes) (1 + count)

-- a name of so many bytes between backticks
abbrev pub variable : ℕ → List ℕ → Lexeme
variable count bytes =
    if not (count == 0) && begins_with 96 (drop count bytes)
    then Spelled Tick (take count bytes) (2 + count) else BadByte

-- one of `{` `}` `(` `)` `;` `,` `:`
abbrev pub is_symbol : ℕ → Bool
is_symbol b = ((b == 123) || (b == 125)) || ((b == 40) || (b == 41))
    || ((b == 59) || (b == 44) || (b == 58))

-- `..` and the operators, which may be one byte, or two where `=` stands behind
abbrev pub operator : ℕ → List ℕ → Lexeme
operator b bytes =
    if (b == 46) && begins_with 46 bytes then Spelled Sym (46 ∷ 46 ∷ []) 2
    else (if ((b == 60) || (b == 62)) || ((b == 61) || (b == 33)) then
    (if begins_with 61 bytes then Spelled Op (b ∷ 61 ∷ []) 2
    else (if (b == 60) || (b == 62) then Spelled Op (b ∷ []) 1 else BadByte))
    else BadByte)

-- what begins at a byte that stands in no word
abbrev pub mark : ℕ → List ℕ → Lexeme
mark b bytes =
    if is_blank b then Gap 1
    else (if b == 35 then Gap (1 + length_before 10 bytes)
    else (if b == 34 then string (double_quoted 0 bytes)
    else (if b == 39 then string (single_quoted bytes)
    else (if b == 64 then directive (word_length 64 bytes) bytes
    else (if b == 96 then variable (prefix_len is_name_byte bytes) bytes
    else (if is_symbol b then Spelled Sym (b ∷ []) 1
    else operator b bytes))))))

-- what begins at the first byte, behind the byte before
abbrev pub piece : ℕ → List ℕ → Lexeme
piece before [] = BadByte
piece before (b ∷ bytes) =
    if is_word_at before b bytes then Spelled Word
    (take (word_length before (b ∷ bytes)) (b ∷ bytes)) (word_length before (b ∷ bytes))
    else mark b bytes

abbrev pub piece_length : Lexeme → ℕ
piece_length (Gap count) = count
piece_length (Spelled kind text count) = count
piece_length OpenString = 1
piece_length BadByte = 1

abbrev pub first_spot : TextPosition
first_spot = record { place = 0; line = 1; column = 1; before = 10 }

-- the place behind a byte: LF ends a line
abbrev pub spot_behind : TextPosition → ℕ → TextPosition
spot_behind spot b =
    if b == 10 then (record {
      place = spot.place + 1;
      line = spot.line + 1;
      column = 1;
      before = b;
    })
    else (record { place = spot.place + 1; line = spot.line; column = spot.column + 1; before = b })

abbrev pub token : ℕ → TextPosition → TokenKind → List ℕ → Token
token file spot kind text = record {
  kind = kind;
  file = file;
  line = spot.line;
  column = spot.column;
  text = text;
}

abbrev pub Lexed : Type 0
Lexed = Result (List Token) LexFault

abbrev pub lexed_behind : Token → Lexed → Lexed
lexed_behind first (Ok tokens) = Ok (first ∷ tokens)
lexed_behind first (Err fault) = Err fault

-- a piece at a place, and the tokens behind it
abbrev pub with_piece : ℕ → TextPosition → Lexeme → Lexed → Lexed
with_piece file spot (Gap count) rest = rest
with_piece file spot (Spelled kind text count) rest = lexed_behind (token file spot kind text) rest
with_piece file spot OpenString rest = Err (OpenStringAt spot.place)
with_piece file spot BadByte rest = Err (BadByteAt spot.place)

-- the tokens from a place on, once so many bytes more of a piece are passed over
abbrev pub tokens_from : ℕ → TextPosition → ℕ → List ℕ → Lexed
tokens_from file spot skip [] = Ok []
tokens_from file spot (suc skip) (b ∷ bytes) = tokens_from file (spot_behind spot b) skip bytes
tokens_from file spot zero (b ∷ bytes) =
    with_piece file spot (piece spot.before (b ∷ bytes))
    (tokens_from file (spot_behind spot b) (piece_length (piece spot.before (b ∷ bytes)) - 1) bytes)

-- the tokens of a file's text, or what is wrong at the first place where something is: no token begins there, or a string isn't closed.
-- The byte before a text counts as an LF.
abbrev pub tokens_of : ℕ → List ℕ → Lexed
tokens_of file text = tokens_from file first_spot 0 text

-- the answer is that, but for lack of memory
abbrev pub IsLexed : Lexed → Result (Vec Token Global) LexFault → Type 0
IsLexed lexed (Ok tokens) = lexed ≡ Ok tokens.items
IsLexed lexed (Err (OpenStringAt place)) = lexed ≡ Err (OpenStringAt place)
IsLexed lexed (Err (BadByteAt place)) = lexed ≡ Err (BadByteAt place)
IsLexed lexed (Err NoMemory) = Unit {0}

-- the line of a place, counted from 1
abbrev pub line_at : List ℕ → ℕ → ℕ
line_at text place = 1 + count_by (λ b. b == 10) (take place text)
