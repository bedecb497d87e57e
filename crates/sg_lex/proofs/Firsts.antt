-- The first byte of a value, as a search for it says, is where std's count of the bytes before it ends.
use Rattle.std.proofs.Common.{◌≡◌, ℕ, ◌<◌, Bool, true, false, List, length, eqb, None, Some, arith, refl, sym}
use Rattle.std.proofs.lemmas.List.Sums.{position_or_len_is}
use Rattle.memchr.specs.Find.{IsFirstByte, is_byte}
use Rattle.sg_lex.specs.Tokens.{length_before}

-- what isn't true is false
untrue : (b : Bool) → (b ≡ true → ⊥) → b ≡ false
untrue true h = absurd (h refl)
untrue false h = refl

pub length_before-found : (c : ℕ) (bytes : List ℕ) (place : ℕ) → IsFirstByte (is_byte c) bytes (Some place) → place ≡ length_before c bytes
length_before-found c bytes place h =
    let within : place < length bytes = h.0.high in
    sym (position_or_len_is (λ b. eqb b c) bytes place 0 (omega arith) (λ k below. untrue _ (h.0.before k (omega arith) below)) (λ _. h.1))

pub length_before-none : (c : ℕ) (bytes : List ℕ) → IsFirstByte (is_byte c) bytes None → length bytes ≡ length_before c bytes
length_before-none c bytes h =
    sym (position_or_len_is (λ b. eqb b c) bytes (length bytes) 0 (omega arith) (λ k below. untrue _ (h k (omega arith) below)) (λ past. absurd (omega arith)))
