-- Setting pairs that stand in order puts each at the end.
use Rattle.std.proofs.Common.{◌≡◌, ℕ, suc, ◌+◌, ◌-◌, ◌<◌, Bool, true, false, if◌then◌else◌, List, [], ◌∷◌, ◌++◌, length, take, get_or, slice_get, is_lt, true≢false, refl, sym, ap, subst, ◌∙◌, arith}
use Rattle.std.proofs.lemmas.List.Sorted.{ranks_by}
use Rattle.std.specs.Cmp.Lexicographic.{nat_list_cmp_total}
use Rattle.std.specs.declared.cmp.Ordering.{Ordering}
use Rattle.std.specs.declared.cmp.Ordering.TheVariants.{Less, Equal, Greater}
use Rattle.sg_msg.specs.Message.{NameValue, byte_order, with_pair, with_all, IsAscending}
use Rattle.sg_msg.specs.Sorting.{is_before, is_named, put_last, put_each, IsInOrder}
use Rattle.sg_msg.proofs.ByteOrder.{same-from_equal, less-back, equal-from_same, test-same, test-less}
use Rattle.sg_msg.proofs.KeptPairs.{ascending-with}

-- the pair stands before none of these
abbrev IsNameAbove : NameValue → List NameValue → Type 0
IsNameAbove pair [] = Unit {0}
IsNameAbove pair (first ∷ pairs) = (is_before pair first ≡ false) × IsNameAbove pair pairs

-- no pair stands before the one in front of it
abbrev NamesRise : NameValue → List NameValue → Type 0
NamesRise pair [] = Unit {0}
NamesRise pair (next ∷ pairs) = (is_before next pair ≡ false) × NamesRise next pairs

above-trans : (p q : NameValue) (pairs : List NameValue) → is_before q p ≡ false → IsNameAbove p pairs → IsNameAbove q pairs
above-trans p q [] e above = tt
above-trans p q (first ∷ pairs) e above = ((ranks_by nat_list_cmp_total (λ (x : NameValue). x.name)).chain q p first e above.0, above-trans p q pairs e above.1)

-- the pair in front of another is left there
abbrev put_at : ℕ → NameValue → List NameValue → List NameValue
put_at place pair pairs = (if is_named pair.name (slice_get pairs place) then take place pairs else pairs) ++ pair ∷ []

later_at : (pair first : NameValue) (pairs : List NameValue) (place : ℕ) → put_at (suc place) pair (first ∷ pairs) ≡ first ∷ put_at place pair pairs
later_at pair first pairs place = by (is_named pair.name (slice_get pairs place)) refl
  where
    by : (b : Bool) → is_named pair.name (slice_get pairs place) ≡ b → put_at (suc place) pair (first ∷ pairs) ≡ first ∷ put_at place pair pairs
    by true is = rw is refl
    by false is = rw is refl

later : (pair first : NameValue) (pairs : List NameValue) → 0 < length pairs → put_last pair (first ∷ pairs) ≡ first ∷ put_last pair pairs
later pair first pairs some =
    subst (λ (n : ℕ). put_at n pair (first ∷ pairs) ≡ first ∷ put_at (length pairs - 1) pair pairs) {x = suc (length pairs - 1)} {y = length (first ∷ pairs) - 1} (omega (arith, some)) (later_at pair first pairs (length pairs - 1))

-- above all, a pair is set at the end
last-with : (pair : NameValue) (kept : List NameValue) → IsAscending kept → IsNameAbove pair kept → put_last pair kept ≡ with_pair pair.name pair.value kept
last-with pair [] up above = refl
last-with pair (only ∷ []) up above = by (byte_order only.name pair.name) refl
  where
    by : (o : Ordering) → byte_order only.name pair.name ≡ o → put_last pair (only ∷ []) ≡ with_pair pair.name pair.value (only ∷ [])
    by Less is = rw (is, test-less only.name pair.name is) refl
    by Equal is = rw (is, test-same only.name pair.name (same-from_equal only.name pair.name is)) refl
    by Greater is = absurd (true≢false (sym (ap is_lt (less-back only.name pair.name is)) ∙ above.0))
last-with pair (first ∷ second ∷ rest) up above = by (last-with pair (second ∷ rest) up.1 above.1) (byte_order first.name pair.name) refl
  where
    by : put_last pair (second ∷ rest) ≡ with_pair pair.name pair.value (second ∷ rest) → (o : Ordering) → byte_order first.name pair.name ≡ o → put_last pair (first ∷ second ∷ rest) ≡ with_pair pair.name pair.value (first ∷ second ∷ rest)
    by tail Less is = later pair first (second ∷ rest) (omega arith) ∙ ap (λ (l : List NameValue). first ∷ l) tail ∙ rw is refl
    by tail Equal is =
        let less = subst (λ (n : List ℕ). byte_order n second.name ≡ Less) (same-from_equal first.name pair.name is) up.0.0 in
        absurd (true≢false (sym (ap is_lt less) ∙ above.1.0))
    by tail Greater is = absurd (true≢false (sym (ap is_lt (less-back first.name pair.name is)) ∙ above.0))

-- no pair stands before one of its own name
not-before : (pair : NameValue) (value : List ℕ) → is_before pair (record { name = pair.name; value = value }) ≡ false
not-before pair value = ap is_lt (equal-from_same pair.name pair.name refl)

above-with : (pair : NameValue) (kept : List NameValue) → IsNameAbove pair kept → IsNameAbove pair (with_pair pair.name pair.value kept)
above-with pair [] above = (not-before pair pair.value, tt)
above-with pair (first ∷ kept) above = by (above-with pair kept above.1) (byte_order first.name pair.name) refl
  where
    by : IsNameAbove pair (with_pair pair.name pair.value kept) → (o : Ordering) → byte_order first.name pair.name ≡ o → IsNameAbove pair (with_pair pair.name pair.value (first ∷ kept))
    by tail Less is = rw is (above.0, tail)
    by tail Equal is = rw is (not-before pair pair.value, above.1)
    by tail Greater is = rw is (not-before pair pair.value, above)

-- the first of the pairs is above what is kept, and each other above the one in front of it
abbrev FollowsName : List NameValue → List NameValue → Type 0
FollowsName kept [] = Unit {0}
FollowsName kept (pair ∷ pairs) = IsNameAbove pair kept × NamesRise pair pairs

follows-with : (pair : NameValue) (kept pairs : List NameValue) → IsNameAbove pair kept → NamesRise pair pairs → FollowsName (with_pair pair.name pair.value kept) pairs
follows-with pair kept [] above rises = tt
follows-with pair kept (next ∷ pairs) above rises = (above-trans pair next (with_pair pair.name pair.value kept) rises.0 (above-with pair kept above), rises.1)

each-is-all : (pairs kept : List NameValue) → IsAscending kept → FollowsName kept pairs → put_each pairs kept ≡ with_all pairs kept
each-is-all [] kept up follows = refl
each-is-all (pair ∷ pairs) kept up follows =
    ap (λ (l : List NameValue). put_each pairs l) (last-with pair kept up follows.0)
    ∙ each-is-all pairs (with_pair pair.name pair.value kept) (ascending-with pair.name pair.value kept up) (follows-with pair kept pairs follows.0 follows.1)

rises-from_order : (pair : NameValue) (pairs : List NameValue) → IsInOrder (pair ∷ pairs) → NamesRise pair pairs
rises-from_order pair [] sorted = tt
rises-from_order pair (next ∷ pairs) sorted = (sorted 0 pair (omega arith) (omega arith), rises-from_order next pairs tail)
  where
    tail : IsInOrder (next ∷ pairs)
    tail k d low below = subst (λ (n : ℕ). is_before (get_or (pair ∷ next ∷ pairs) n d) (get_or (next ∷ pairs) k d) ≡ false) {x = suc k + 1} {y = suc (k + 1)} (omega arith) (sorted (suc k) d (omega arith) (omega arith))

pub in_order-each : (pairs : List NameValue) → IsInOrder pairs → put_each pairs [] ≡ with_all pairs []
in_order-each [] sorted = refl
in_order-each (pair ∷ pairs) sorted = each-is-all (pair ∷ pairs) [] tt (tt, rises-from_order pair pairs sorted)
