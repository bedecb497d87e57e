-- The pieces of a text one after the other, as they are read.
use Rattle.std.specs.Prelude.{◌≡◌, ℕ, ◌<◌, ◌≤◌, List, [], ◌∷◌, ◌++◌, Result, Ok, Err}
use Rattle.sg_lex.specs.declared.lexer.TextPosition.{TextPosition}
use Rattle.sg_lex.specs.declared.piece.Lexeme.{Lexeme}
use Rattle.sg_lex.specs.declared.piece.Lexeme.TheVariants.{Gap, Spelled, OpenString, BadByte}
use Rattle.sg_lex.specs.declared.token.Token.{Token}
use Rattle.sg_lex.specs.declared.token.LexFault.{LexFault}
use Rattle.sg_lex.specs.declared.token.LexFault.TheVariants.{OpenString as OpenStringAt, BadByte as BadByteAt, NoMemory}
use Rattle.sg_lex.specs.Tokens.{Lexed, spot_behind, with_piece, piece_length}

-- a byte at least, and no more than these
abbrev pub IsLexemeWithin : ℕ → Lexeme → Type 0
IsLexemeWithin bytes (Gap count) = (0 < count) × (count ≤ bytes)
IsLexemeWithin bytes (Spelled kind text count) = (0 < count) × (count ≤ bytes)
IsLexemeWithin bytes OpenString = Unit {0}
IsLexemeWithin bytes BadByte = Unit {0}

-- the place behind these bytes
abbrev pub spot_after : TextPosition → List ℕ → TextPosition
spot_after spot [] = spot
spot_after spot (b ∷ bytes) = spot_after (spot_behind spot b) bytes

abbrev pub lexed_after : List Token → Lexed → Lexed
lexed_after before (Ok tokens) = Ok (before ++ tokens)
lexed_after before (Err fault) = Err fault

-- the piece's token stands behind those before, or the piece is none of a text with tokens
abbrev pub TakesPiece : ℕ → TextPosition → Lexeme → List Token → List Token → Result ℕ LexFault
    → Type 0
TakesPiece file spot found old new (Ok count) = (count ≡ piece_length found)
    × ((rest : Lexed) → lexed_after old (with_piece file spot found rest) ≡ lexed_after new rest)
TakesPiece file spot found old new (Err (OpenStringAt place)) = (rest : Lexed)
    → with_piece file spot found rest ≡ Err (OpenStringAt place)
TakesPiece file spot found old new (Err (BadByteAt place)) = (rest : Lexed)
    → with_piece file spot found rest ≡ Err (BadByteAt place)
TakesPiece file spot found old new (Err NoMemory) = Unit {0}
