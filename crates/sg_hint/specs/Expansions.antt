-- The token of a fault that stops the expansion.
use Rattle.std.specs.Prelude.{◌==◌, ◌&&◌, ◌||◌, ℕ, Bool, true, false, List, [], ◌∷◌, ◌++◌, take, if◌then◌else◌, Option, Some, None, Ok, Err}
use Rattle.std.specs.List.{list_any}
use Rattle.sg_lex.specs.Tokens.{Lexed}
use Rattle.sg_lex.specs.declared.fault.ConfigFault.{ConfigFault}
use Rattle.sg_lex.specs.declared.fault.ConfigKind.{ConfigKind}
use Rattle.sg_lex.specs.declared.fault.ConfigKind.TheVariants.{UnknownVariable, Version, IncludeDepth, Unsupported, MissingArgument, UnknownArgument}
use Rattle.sg_lex.specs.declared.token.LexFault.TheVariants.{OpenString, BadByte, NoMemory}
use Rattle.sg_lex.specs.declared.token.Token.{Token}
use Rattle.sg_lex.specs.declared.token.TokenKind.{TokenKind}
use Rattle.sg_lex.specs.declared.token.TokenKind.TheVariants.{Str, At, Tick}
use Rattle.sg_parse_base.specs.Tokens.{is_word}
use Rattle.sg_hint.specs.Lines.{behind_bytes, first_place}
use Rattle.sg_hint.specs.declared.line.TextPlace.{TextPlace}

-- A variable is in backticks, alone or within a string.
abbrev pub has_variable : TokenKind → List ℕ → Bool
has_variable Tick text = true
has_variable Str text = list_any (λ byte. byte == 96) text
has_variable _ text = false

abbrev pub is_directive : TokenKind → Bool
is_directive At = true
is_directive _ = false

-- A fault of this kind can stand at the token, which is the first of its file or not.
abbrev pub may_stand : ConfigKind → Bool → Token → Bool
may_stand UnknownVariable first token = has_variable token.kind token.text
may_stand Version first token = first || is_directive token.kind
may_stand IncludeDepth first token = is_directive token.kind
may_stand Unsupported first token = is_directive token.kind
may_stand MissingArgument first token = is_word token
may_stand UnknownArgument first token = is_word token
may_stand _ first token = false

-- and it is one of the fault's line
abbrev pub stands : ConfigFault → Bool → Token → Bool
stands fault first token = (token.line == fault.line) && may_stand fault.kind first token

abbrev pub column_if : Bool → Token → List ℕ
column_if false token = []
column_if true token = token.column ∷ []

-- the columns of those at which the fault can stand
abbrev pub columns_from : ConfigFault → Bool → List Token → List ℕ
columns_from fault first [] = []
columns_from fault first (token ∷ tokens) = column_if (stands fault first token) token
    ++ columns_from fault false tokens

-- the only one there is
abbrev pub only : List ℕ → Option ℕ
only [] = None
only (column ∷ []) = Some column
only (column ∷ another ∷ columns) = None

-- the column of a place, if it is in this line
abbrev pub column_in : ℕ → TextPlace → Option ℕ
column_in line place = if place.line == line then Some place.column else None

-- The column of the fault, by the tokens of its file: that of the only token at which it can stand, or of the byte at which
-- no token begins.
abbrev pub column_by : ConfigFault → List ℕ → Lexed → Option ℕ
column_by fault text (Ok tokens) = only (columns_from fault true tokens)
column_by fault text (Err (OpenString at)) =
    column_in fault.line (behind_bytes first_place (take at text))
column_by fault text (Err (BadByte at)) =
    column_in fault.line (behind_bytes first_place (take at text))
column_by fault text (Err NoMemory) = None
