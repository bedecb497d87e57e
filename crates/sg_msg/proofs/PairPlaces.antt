-- What the definitions do at the place of a name among ascending pairs.
use Rattle.std.proofs.Common.{◌≡◌, ℕ, zero, suc, List, [], ◌∷◌, get_or, set, insert, remove, Some, None, refl, ap, subst, arith}
use Rattle.std.specs.declared.cmp.Ordering.TheVariants.{Less}
use Rattle.sg_msg.specs.Message.{NameValue, byte_order, value_of, with_pair, without_pair, IsNameBelow, IsAscending}
use Rattle.sg_msg.specs.Places.{IsPairAt, IsGapFor}
use Rattle.sg_msg.proofs.ByteOrder.{equal-from_same, test-same, test-less, test-greater}

module _ (name : List ℕ) where
  -- in the tail, a place is one lower
  at-tail : (pair : NameValue) (pairs : List NameValue) (place : ℕ) → IsPairAt (pair ∷ pairs) name (suc place) → IsPairAt pairs name place
  at-tail pair pairs place at = record { in_range = omega (arith, at.in_range); has_name = at.has_name }

  gap-tail : (pair : NameValue) (pairs : List NameValue) (place : ℕ) → IsGapFor (pair ∷ pairs) name (suc place) → IsGapFor pairs name place
  gap-tail pair pairs place gap = record {
    in_range = omega (arith, gap.in_range);
    smaller = λ k d low below. gap.smaller (suc k) d (omega arith) (omega arith);
    greater = λ k d from below. gap.greater (suc k) d (omega arith) (omega arith);
  }

  -- what is below all pairs is below the name at a place
  below-at : (x : List ℕ) (pairs : List NameValue) (place : ℕ) → IsNameBelow x pairs → IsPairAt pairs name place → byte_order x name ≡ Less
  below-at x [] place below at = absurd (omega (arith, at.in_range))
  below-at x (pair ∷ pairs) zero below at = subst (λ (n : List ℕ). byte_order x n ≡ Less) (at.has_name pair) below.0
  below-at x (pair ∷ pairs) (suc place) below at = below-at x pairs place below.1 (at-tail pair pairs place at)

  pub value-at : (pairs : List NameValue) (place : ℕ) (d : NameValue) → IsAscending pairs → IsPairAt pairs name place → value_of name pairs ≡ Some (get_or pairs place d).value
  value-at [] place d up at = absurd (omega (arith, at.in_range))
  value-at (pair ∷ pairs) zero d up at = rw (test-same pair.name name (at.has_name pair)) refl
  value-at (pair ∷ pairs) (suc place) d up at = rw (test-less pair.name name (below-at pair.name pairs place up.0 (at-tail pair pairs place at))) (value-at pairs place d up.1 (at-tail pair pairs place at))

  pub value-gap : (pairs : List NameValue) (place : ℕ) → IsGapFor pairs name place → value_of name pairs ≡ None
  value-gap [] place gap = refl
  value-gap (pair ∷ pairs) zero gap = rw (test-greater pair.name name (gap.greater 0 pair (omega arith) (omega arith))) (value-gap pairs zero (record { in_range = omega arith; smaller = λ k d low below. absurd (omega arith); greater = λ k d from below. gap.greater (suc k) d (omega arith) (omega arith) }))
  value-gap (pair ∷ pairs) (suc place) gap = rw (test-less pair.name name (gap.smaller 0 pair (omega arith) (omega arith))) (value-gap pairs place (gap-tail pair pairs place gap))

  pub with-at : (value : List ℕ) (pairs : List NameValue) (place : ℕ) → IsAscending pairs → IsPairAt pairs name place → with_pair name value pairs ≡ set pairs place (record { name = name; value = value })
  with-at value [] place up at = absurd (omega (arith, at.in_range))
  with-at value (pair ∷ pairs) zero up at = rw (equal-from_same pair.name name (at.has_name pair)) refl
  with-at value (pair ∷ pairs) (suc place) up at = rw (below-at pair.name pairs place up.0 (at-tail pair pairs place at)) (ap (λ (rest : List NameValue). pair ∷ rest) (with-at value pairs place up.1 (at-tail pair pairs place at)))

  pub with-gap : (value : List ℕ) (pairs : List NameValue) (place : ℕ) → IsGapFor pairs name place → with_pair name value pairs ≡ insert pairs place (record { name = name; value = value })
  with-gap value [] zero gap = refl
  with-gap value [] (suc place) gap = absurd (omega (arith, gap.in_range))
  with-gap value (pair ∷ pairs) zero gap = rw (gap.greater 0 pair (omega arith) (omega arith)) refl
  with-gap value (pair ∷ pairs) (suc place) gap = rw (gap.smaller 0 pair (omega arith) (omega arith)) (ap (λ (rest : List NameValue). pair ∷ rest) (with-gap value pairs place (gap-tail pair pairs place gap)))

  pub without-at : (pairs : List NameValue) (place : ℕ) → IsAscending pairs → IsPairAt pairs name place → without_pair name pairs ≡ remove pairs place
  without-at [] place up at = absurd (omega (arith, at.in_range))
  without-at (pair ∷ pairs) zero up at = rw (test-same pair.name name (at.has_name pair)) refl
  without-at (pair ∷ pairs) (suc place) up at = rw (test-less pair.name name (below-at pair.name pairs place up.0 (at-tail pair pairs place at))) (ap (λ (rest : List NameValue). pair ∷ rest) (without-at pairs place up.1 (at-tail pair pairs place at)))

  pub without-gap : (pairs : List NameValue) (place : ℕ) → IsGapFor pairs name place → without_pair name pairs ≡ pairs
  without-gap [] place gap = refl
  without-gap (pair ∷ pairs) zero gap = rw (test-greater pair.name name (gap.greater 0 pair (omega arith) (omega arith))) (ap (λ (rest : List NameValue). pair ∷ rest) (without-gap pairs zero (record { in_range = omega arith; smaller = λ k d low below. absurd (omega arith); greater = λ k d from below. gap.greater (suc k) d (omega arith) (omega arith) })))
  without-gap (pair ∷ pairs) (suc place) gap = rw (test-less pair.name name (gap.smaller 0 pair (omega arith) (omega arith))) (ap (λ (rest : List NameValue). pair ∷ rest) (without-gap pairs place (gap-tail pair pairs place gap)))
