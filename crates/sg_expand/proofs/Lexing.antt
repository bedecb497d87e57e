-- The places of what is wrong with a text are within it.
use Rattle.std.proofs.Common.{◌≡◌, ℕ, zero, suc, ◌+◌, ◌-◌, ◌≤◌, Bool, true, false, cond, eqb, List, [], ◌∷◌, length, Ok, Err, refl, arith, subst}
use Rattle.sg_lex.specs.declared.lexer.TextPosition.{TextPosition}
use Rattle.sg_lex.specs.declared.piece.Lexeme.{Lexeme}
use Rattle.sg_lex.specs.declared.piece.Lexeme.TheVariants.{Gap, Spelled, OpenString, BadByte}
use Rattle.sg_lex.specs.declared.token.Token.{Token}
use Rattle.sg_lex.specs.declared.token.LexFault.{LexFault}
use Rattle.sg_lex.specs.declared.token.LexFault.TheVariants.{OpenString as OpenStringAt, BadByte as BadByteAt, NoMemory}
use Rattle.sg_lex.specs.Tokens.{Lexed, spot_behind, first_spot, piece, piece_length, lexed_behind, with_piece, tokens_from, tokens_of, IsLexed}
use Rattle.sg_expand.specs.Lexed.{PlaceWithin}

abbrev WithinLexed : ℕ → Lexed → Type 0
WithinLexed n (Ok tokens) = Unit {0}
WithinLexed n (Err fault) = PlaceWithin n fault

place-behind : (spot : TextPosition) (b : ℕ) → (spot_behind spot b).place ≡ spot.place + 1
place-behind spot b = chosen (eqb b 10)
  where
    chosen : (c : Bool) → (cond c (let s : TextPosition = record { place = spot.place + 1; line = spot.line + 1; column = 1; before = b } in s) (record { place = spot.place + 1; line = spot.line; column = spot.column + 1; before = b })).place ≡ spot.place + 1
    chosen true = refl
    chosen false = refl

within-behind : (n : ℕ) (token : Token) (rest : Lexed) → WithinLexed n rest → WithinLexed n (lexed_behind token rest)
within-behind n token (Ok tokens) h = tt
within-behind n token (Err fault) h = h

within-piece : (n file : ℕ) (spot : TextPosition) (found : Lexeme) (rest : Lexed) → spot.place ≤ n → WithinLexed n rest → WithinLexed n (with_piece file spot found rest)
within-piece n file spot (Gap count) rest le h = h
within-piece n file spot (Spelled kind text count) rest le h = within-behind n _ rest h
within-piece n file spot OpenString rest le h = le
within-piece n file spot BadByte rest le h = le

within-from : (n file : ℕ) (spot : TextPosition) (skip : ℕ) (bytes : List ℕ) → spot.place + length bytes ≡ n → WithinLexed n (tokens_from file spot skip bytes)
within-from n file spot skip [] e = tt
within-from n file spot (suc skip) (b ∷ bytes) e = within-from n file (spot_behind spot b) skip bytes (omega (arith, place-behind spot b))
within-from n file spot zero (b ∷ bytes) e =
    within-piece n file spot (piece spot.before (b ∷ bytes)) _ (omega arith) (within-from n file (spot_behind spot b) (piece_length (piece spot.before (b ∷ bytes)) - 1) bytes (omega (arith, place-behind spot b)))

pub place-within : (file : ℕ) (text : List ℕ) (fault : LexFault) → tokens_of file text ≡ Err fault → PlaceWithin (length text) fault
place-within file text fault e = subst (WithinLexed (length text)) e (within-from (length text) file first_spot 0 text (omega arith))

pub lexed-within : (file : ℕ) (text : List ℕ) (fault : LexFault) → IsLexed (tokens_of file text) (Err fault) → PlaceWithin (length text) fault
lexed-within file text (OpenStringAt place) h = place-within file text (OpenStringAt place) h
lexed-within file text (BadByteAt place) h = place-within file text (BadByteAt place) h
lexed-within file text NoMemory h = tt
