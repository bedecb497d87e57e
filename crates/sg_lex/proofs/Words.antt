-- A word at the front of a text, and what isn't one.
use Rattle.std.proofs.Common.{◌≡◌, ℕ, ◌+◌, ◌-◌, ◌<◌, Bool, true, false, cond, List, [], ◌∷◌, length, get_or, take, drop, refl, ap, sym, ◌∙◌, arith}
use Rattle.std.proofs.Math.Seq.{take-length}
use Rattle.std.proofs.lemmas.List.{length-drop}
use Rattle.sg_lex.specs.declared.piece.Lexeme.{Lexeme}
use Rattle.sg_lex.specs.declared.piece.Lexeme.TheVariants.{Spelled}
use Rattle.sg_lex.specs.declared.token.TokenKind.TheVariants.{Word}
use Rattle.sg_lex.specs.Tokens.{is_word_at, word_length, mark, piece}

-- a text's tail, as a slice of it is written
pub tail : (n : ℕ) (text : List ℕ) → take (length text - n) (drop n text) ≡ drop n text
tail n text = ap (λ m. take m (drop n text)) (sym (length-drop n text)) ∙ take-length (drop n text)

word-chosen : (chosen : Bool) (count : ℕ) (text : List ℕ) (other : Lexeme) → 0 < cond chosen (1 + count) 0 → Spelled Word (take (cond chosen (1 + count) 0) text) (cond chosen (1 + count) 0) ≡ cond chosen (Spelled Word (take (cond chosen (1 + count) 0) text) (cond chosen (1 + count) 0)) other
word-chosen true count text other some = refl
word-chosen false count text other some = absurd (omega arith)

pub piece-word : (before : ℕ) (text : List ℕ) → 0 < word_length before text → Spelled Word (take (word_length before text) text) (word_length before text) ≡ piece before text
piece-word before [] some = absurd (omega arith)
piece-word before (b ∷ bytes) some = word-chosen (is_word_at before b bytes) (word_length b bytes) (b ∷ bytes) (mark b bytes) some

mark-chosen : (chosen : Bool) (count : ℕ) (word other : Lexeme) → cond chosen (1 + count) 0 ≡ 0 → other ≡ cond chosen word other
mark-chosen true count word other none = absurd (omega arith)
mark-chosen false count word other none = refl

pub piece-mark : (before : ℕ) (text : List ℕ) → 0 < length text → word_length before text ≡ 0 → mark (get_or text 0 0) (drop 1 text) ≡ piece before text
piece-mark before [] some none = absurd (omega arith)
piece-mark before (b ∷ bytes) some none = mark-chosen (is_word_at before b bytes) (word_length b bytes) _ (mark b bytes) none
