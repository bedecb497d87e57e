-- What the steps of the loops over a text keep.
use Rattle.std.proofs.Common.{◌≡◌, ℕ, zero, suc, ◌+◌, ◌-◌, ◌<◌, ◌≤◌, List, [], ◌∷◌, ◌++◌, length, get_or, take, drop, Ok, refl, ap, sym, ◌∙◌, arith}
use Rattle.std.proofs.lemmas.List.{take_more, drop-drop, length-drop}
use Rattle.sg_lex.specs.declared.lexer.TextPosition.{TextPosition}
use Rattle.sg_lex.specs.declared.piece.Lexeme.{Lexeme}
use Rattle.sg_lex.specs.declared.piece.Lexeme.TheVariants.{Gap, Spelled, OpenString, BadByte}
use Rattle.sg_lex.specs.declared.token.Token.{Token}
use Rattle.sg_lex.specs.Tokens.{Lexed, spot_behind, piece, piece_length, with_piece, tokens_from}
use Rattle.sg_lex.specs.Pieces.{IsLexemeWithin, spot_after, lexed_after, TakesPiece}

spot_after-push : (spot : TextPosition) (bytes : List ℕ) (b : ℕ) → spot_after spot (bytes ++ b ∷ []) ≡ spot_behind (spot_after spot bytes) b
spot_after-push spot [] b = refl
spot_after-push spot (a ∷ bytes) b = spot_after-push (spot_behind spot a) bytes b

pub spot_after-more : (spot : TextPosition) (bytes : List ℕ) (i : ℕ) → i < length bytes → spot_after spot (take (i + 1) bytes) ≡ spot_behind (spot_after spot (take i bytes)) (get_or bytes i 0)
spot_after-more spot bytes i within = ap (spot_after spot) (take_more bytes i 0 within) ∙ spot_after-push spot (take i bytes) (get_or bytes i 0)

-- passing bytes over leads to the place behind them
tokens_from-skip : (file : ℕ) (spot : TextPosition) (skip : ℕ) (bytes : List ℕ) → tokens_from file spot skip bytes ≡ tokens_from file (spot_after spot (take skip bytes)) 0 (drop skip bytes)
tokens_from-skip file spot zero bytes = refl
tokens_from-skip file spot (suc skip) [] = refl
tokens_from-skip file spot (suc skip) (b ∷ bytes) = tokens_from-skip file (spot_behind spot b) skip bytes

-- the first piece of a text, and the tokens behind it
first-piece : (file : ℕ) (spot : TextPosition) (text : List ℕ) (less : ℕ) → 0 < length text → piece_length (piece spot.before text) - 1 ≡ less → tokens_from file spot 0 text ≡ with_piece file spot (piece spot.before text) (tokens_from file (spot_after spot (take (suc less) text)) 0 (drop (suc less) text))
first-piece file spot [] less some is = absurd (omega arith)
first-piece file spot (b ∷ bytes) less some is =
    ap (with_piece file spot (piece spot.before (b ∷ bytes))) (ap (λ n. tokens_from file (spot_behind spot b) n bytes) is ∙ tokens_from-skip file (spot_behind spot b) less bytes)

pub within-length : (found : Lexeme) (bytes : ℕ) → 0 < bytes → IsLexemeWithin bytes found → (0 < piece_length found) × (piece_length found ≤ bytes)
within-length (Gap count) bytes some within = within
within-length (Spelled kind text count) bytes some within = within
within-length OpenString bytes some within = (omega arith, omega arith)
within-length BadByte bytes some within = (omega arith, omega arith)

-- the tokens from a place on, by the first piece of so many bytes there
pub tokens_from-piece : (file : ℕ) (spot : TextPosition) (text : List ℕ) (count : ℕ) → 0 < length text → 0 < count → count ≡ piece_length (piece spot.before text) → tokens_from file spot 0 text ≡ with_piece file spot (piece spot.before text) (tokens_from file (spot_after spot (take count text)) 0 (drop count text))
tokens_from-piece file spot text count some positive is =
    let whole : suc (count - 1) ≡ count = omega arith in
    first-piece file spot text (count - 1) some (ap (λ n. n - 1) (sym is))
    ∙ ap (λ n. with_piece file spot (piece spot.before text) (tokens_from file (spot_after spot (take n text)) 0 (drop n text))) whole

-- the tokens of a text, once a piece more is taken
pub taken-more : (file : ℕ) (spot next : TextPosition) (text : List ℕ) (count : ℕ) (old new : List Token) (all : Lexed) → spot.place < length text → IsLexemeWithin (length (drop spot.place text)) (piece spot.before (drop spot.place text)) → TakesPiece file spot (piece spot.before (drop spot.place text)) old new (Ok count) → next ≡ spot_after spot (take count (drop spot.place text)) → next.place ≡ spot.place + count → all ≡ lexed_after old (tokens_from file spot 0 (drop spot.place text)) → all ≡ lexed_after new (tokens_from file next 0 (drop next.place text))
taken-more file spot next text count old new all inside within taken next_is place before =
    let rest = drop spot.place text in
    let some : 0 < length rest = omega (arith, length-drop spot.place text) in
    let bounds = within-length (piece spot.before rest) (length rest) some within in
    let positive : 0 < count = omega (arith, taken.0, bounds.0) in
    before
    ∙ ap (lexed_after old) (tokens_from-piece file spot rest count some positive taken.0)
    ∙ taken.1 (tokens_from file (spot_after spot (take count rest)) 0 (drop count rest))
    ∙ ap (lexed_after new) ((λ i. tokens_from file (sym next_is i) 0 (drop count rest)) ∙ ap (tokens_from file next 0) (drop-drop count spot.place text ∙ ap (λ n. drop n text) (sym place)))
