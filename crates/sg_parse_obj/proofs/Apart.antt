-- Keywords that differ.
use Rattle.std.proofs.Common.{◌≡◌, ℕ, Bool, true, false, List, [], ◌∷◌, refl, arith}
use Rattle.std.specs.Prelude.{◌&&◌, ◌||◌, ◌==◌, not}
use Rattle.std.proofs.lemmas.Bool.{and_parts}
use Rattle.sg_parse_base.specs.declared.spot.Spot.{Spot}
use Rattle.sg_parse_base.specs.Tokens.{is_word, is_keyword, same_keyword, dashed}
use Rattle.sg_parse_base.specs.Input.{sees_word}
use Rattle.sg_parse_base.specs.Grammar.{Keyword}

abbrev pub differ : List ℕ → List ℕ → Bool
differ [] [] = false
differ [] (d ∷ b) = true
differ (c ∷ a) [] = true
differ (c ∷ a) (d ∷ b) = not (c == d) || differ a b

same-byte : (x c d : ℕ) → (x == c) ≡ true → (x == d) ≡ true → (c == d) ≡ true
same-byte x c d h k = grind (arith, h, k)

or_right : (b c : Bool) → b ≡ true → (not b || c) ≡ true → c ≡ true
or_right true c e h = h
or_right false c e h = absurd cc

keyword-no : (text a b : List ℕ) → same_keyword text a ≡ true → differ a b ≡ true → same_keyword text b ≡ false
keyword-no [] [] [] h d = absurd cc
keyword-no [] [] (d ∷ b) h e = refl
keyword-no [] (c ∷ a) b h e = absurd cc
keyword-no (x ∷ text) [] b h e = absurd cc
keyword-no (x ∷ text) (c ∷ a) [] h e = refl
keyword-no (x ∷ text) (c ∷ a) (d ∷ b) h e =
    let parts = and_parts (dashed x == c) (same_keyword text a) h in
    by (dashed x == d) refl parts.0 (keyword-no text a b parts.1)
  where
    by : (k : Bool) → (dashed x == d) ≡ k → (dashed x == c) ≡ true → (differ a b ≡ true → same_keyword text b ≡ false) → (k && same_keyword text b) ≡ false
    by false is same later = refl
    by true is same later = later (or_right (c == d) (differ a b) (same-byte (dashed x) c d same is) e)

-- where one keyword stands, no other one does
pub apart : (a b : List ℕ) → differ a b ≡ true → (s r : List Spot) → Keyword a s r → sees_word b s ≡ false
unfolding sees_word is_keyword
apart a b e s r t =
    let parts = and_parts (is_word t.0.token) (same_keyword t.0.token.text a) t.1.1 in
    rw (t.1.0, parts.0, keyword-no t.0.token.text a b parts.1 e) refl
