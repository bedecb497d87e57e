-- What a binary search finds among ascending pairs.
use Rattle.std.proofs.Common.{◌≡◌, ℕ, zero, suc, ◌<◌, ◌≤◌, List, [], ◌∷◌, length, get_or, Result, Ok, Err, IfOk, IfErr, HoldsAt, ◌+◌, Bool, true, false, nat_eq, eqb-true, refl, sym, ap, subst, ◌∙◌, arith}
use Rattle.std.specs.declared.cmp.Ordering.{Ordering}
use Rattle.std.specs.declared.cmp.Ordering.TheVariants.{Less, Equal, Greater}
use Rattle.std.specs.Ordering.{ordering_index}
use Rattle.std.specs.List.{AllWithin}
use Rattle.std.proofs.lemmas.Bool.{eqb-false}
use Rattle.std.specs.List.Sorted.{IsSearchInRange, IsBinarySearchResult, IsNonDecreasingBy}
use Rattle.std.specs.Cmp.Lexicographic.{nat_list_cmp_total}
use Rattle.std.specs.Cmp.{alike_right}
use Rattle.sg_msg.specs.Message.{NameValue, byte_order, IsNameBelow, IsAscending}
use Rattle.sg_msg.specs.Places.{IsPairAt, IsGapFor}
use Rattle.sg_msg.proofs.ByteOrder.{same-from_equal, less-trans}

at_most_two : (o : Ordering) → ordering_index o ≤ 2
at_most_two Less = omega arith
at_most_two Equal = omega arith
at_most_two Greater = omega arith

-- a smaller name compares no greater
rises : (x y name : List ℕ) (o : Ordering) → byte_order x y ≡ Less → byte_order y name ≡ o → ordering_index (byte_order x name) ≤ ordering_index o
rises x y name Less below is = rw (less-trans x y name below is) (omega arith)
rises x y name Equal below is = rw (← alike_right nat_list_cmp_total y name x is, below) (omega arith)
rises x y name Greater below is = at_most_two (byte_order x name)

below-get : (x : List ℕ) (pairs : List NameValue) (k : ℕ) (d : NameValue) → IsNameBelow x pairs → k < length pairs → byte_order x (get_or pairs k d).name ≡ Less
below-get x [] k d below lt = absurd (omega arith)
below-get x (pair ∷ pairs) zero d below lt = below.0
below-get x (pair ∷ pairs) (suc k) d below lt = below-get x pairs k d below.1 (omega arith)

pub comparisons_rise : (name : List ℕ) (pairs : List NameValue) → IsAscending pairs → IsNonDecreasingBy (λ pair. ordering_index (byte_order pair.name name)) pairs
comparisons_rise name [] up i j d le lt = absurd (omega arith)
comparisons_rise name (pair ∷ pairs) up zero zero d le lt = omega arith
comparisons_rise name (pair ∷ pairs) up zero (suc j) d le lt = rises pair.name (get_or pairs j d).name name (byte_order (get_or pairs j d).name name) (below-get pair.name pairs j d up.0 (omega arith)) refl
comparisons_rise name (pair ∷ pairs) up (suc i) zero d le lt = absurd (omega arith)
comparisons_rise name (pair ∷ pairs) up (suc i) (suc j) d le lt = comparisons_rise name pairs up.1 i j d (omega arith) (omega arith)

-- a binary search by name ends at the name, or at the gap for it
pub searched : (pairs : List NameValue) (name : List ℕ) → IsAscending pairs → (r : Result ℕ ℕ) → IsSearchInRange r (length pairs) → IsBinarySearchResult (λ pair. byte_order pair.name name) pairs r → record { found : IfOk r (IsPairAt pairs name); absent : IfErr r (IsGapFor pairs name) }
searched pairs name up (Ok place) in_range equal = record { found = record { in_range = in_range; has_name = λ d. same-from_equal _ name (equal d) }; absent = tt }
searched pairs name up (Err place) in_range parted = record { found = tt; absent = record { in_range = in_range; smaller = (parted (comparisons_rise name pairs up)).0; greater = (parted (comparisons_rise name pairs up)).1 } }

-- those before a smaller name are smaller
less-until : (name : List ℕ) (pairs : List NameValue) (place : ℕ) (d : NameValue) → IsAscending pairs → place < length pairs → byte_order (get_or pairs place d).name name ≡ Less
    → AllWithin (λ pair. byte_order pair.name name ≡ Less) pairs 0 (place + 1)
less-until name [] place d up lt is k e low high = absurd (omega (arith, lt))
less-until name (pair ∷ pairs) zero d up lt is zero e low high = is
less-until name (pair ∷ pairs) zero d up lt is (suc k) e low high = absurd (omega (arith, high))
less-until name (pair ∷ pairs) (suc place) d up lt is zero e low high =
    less-trans pair.name (get_or pairs place d).name name (below-get pair.name pairs place d up.0 (omega (arith, lt))) is
less-until name (pair ∷ pairs) (suc place) d up lt is (suc k) e low high = less-until name pairs place d up.1 (omega (arith, lt)) is k e (omega arith) (omega (arith, high))

-- the pair that was read there, and its name
at-place : (P : List ℕ → Type 0) (pairs : List NameValue) (place : ℕ) (pair : NameValue) (read : List ℕ) → pair ≡ get_or pairs place pair → read ≡ pair.name → P read → P (get_or pairs place pair).name
at-place P pairs place pair read is named holds = subst P (named ∙ ap (λ (p : NameValue). p.name) is) holds

holds-here : (P : List ℕ → Type 0) (pairs : List NameValue) (place : ℕ) (d : NameValue) → place < length pairs → P (get_or pairs place d).name → HoldsAt (λ pair. P pair.name) pairs place
holds-here P [] place d lt is e = absurd (omega (arith, lt))
holds-here P (pair ∷ pairs) zero d lt is e = is
holds-here P (pair ∷ pairs) (suc place) d lt is e = holds-here P pairs place d (omega (arith, lt)) is e

-- the name stands at this place
pub pair-here : (name : List ℕ) (pairs : List NameValue) (place : ℕ) (pair : NameValue) (read : List ℕ) → place < length pairs → pair ≡ get_or pairs place pair → read ≡ pair.name
    → byte_order read name ≡ Equal → IsPairAt pairs name place
pair-here name pairs place pair read lt is named equal =
    record { in_range = lt; has_name = holds-here (λ n. n ≡ name) pairs place pair lt (at-place (λ n. n ≡ name) pairs place pair read is named (same-from_equal read name equal)) }

-- the name would go behind the last smaller one
pub gap-here : (name : List ℕ) (pairs : List NameValue) (place end : ℕ) (pair : NameValue) (read : List ℕ) → IsAscending pairs → place < length pairs → end ≡ place + 1
    → AllWithin (λ pair. byte_order pair.name name ≡ Greater) pairs end (length pairs) → pair ≡ get_or pairs place pair → read ≡ pair.name → byte_order read name ≡ Less → IsGapFor pairs name end
gap-here name pairs place end pair read up lt next greater is named less =
    record {
      in_range = omega (arith, lt, next);
      smaller = subst (λ n. AllWithin (λ p. byte_order p.name name ≡ Less) pairs 0 n) (sym next)
          (less-until name pairs place pair up lt (at-place (λ n. byte_order n name ≡ Less) pairs place pair read is named less));
      greater = greater;
    }

-- one pair more is greater
pub greater-on : (name : List ℕ) (pairs : List NameValue) (place end : ℕ) (pair : NameValue) (read : List ℕ) → place < length pairs → end ≡ place + 1
    → AllWithin (λ pair. byte_order pair.name name ≡ Greater) pairs end (length pairs) → pair ≡ get_or pairs place pair → read ≡ pair.name → byte_order read name ≡ Greater
    → AllWithin (λ pair. byte_order pair.name name ≡ Greater) pairs place (length pairs)
greater-on name pairs place end pair read lt next greater is named here k d low high = by (nat_eq k place) refl
  where
    first : HoldsAt (λ p. byte_order p.name name ≡ Greater) pairs place
    first = holds-here (λ n. byte_order n name ≡ Greater) pairs place pair lt (at-place (λ n. byte_order n name ≡ Greater) pairs place pair read is named here)

    by : (test : Bool) → nat_eq k place ≡ test → byte_order (get_or pairs k d).name name ≡ Greater
    by true e = subst (λ n. byte_order (get_or pairs n d).name name ≡ Greater) (sym (eqb-true k place e)) (first d)
    by false e = greater k d (higher (eqb-false k place e)) high
      where
        higher : (k ≡ place → ⊥) → end ≤ k
        higher apart = omega (arith, low, next, apart)
