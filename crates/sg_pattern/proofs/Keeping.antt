-- The expression of a text among those that are kept.
use Rattle.std.proofs.Common.{◌≡◌, ℕ, ◌+◌, Bool, true, false, ◌⊎◌, List, [], ◌∷◌, ◌++◌, Some, bytes_eq, inl, inr, refl, sym, ◌∙◌, subst, arith}
use Rattle.std.proofs.lemmas.Bool.{cases_Bool, cond-true, cond-false, and_parts, false≢true}
use Rattle.std.proofs.lemmas.Option.{none-some, same_Some}
use Rattle.std.proofs.lemmas.List.Sums.{sum_by-append}
use Rattle.std.proofs.lemmas.Slice.Eq.{bytes_eq-Decides}
use Rattle.regex.specs.Patterns.{Re}
use Rattle.sg_pattern.specs.Builds.{MatchesAs}
use Rattle.sg_pattern.specs.Kept.{Made, same_case, is_of, made_of, bytes_of}

alike : (one other : Bool) → same_case one other ≡ true → other ≡ one
alike true other h = h
alike false true h = absurd (false≢true h)
alike false false h = refl

abbrev IsSame : List ℕ → Bool → Made → Type 0
IsSame text ignore_case one = (one.text ≡ text) × (one.ignore_case ≡ ignore_case)

same : (text : List ℕ) (ignore_case : Bool) (one : Made) → is_of text ignore_case one ≡ true → IsSame text ignore_case one
same text ignore_case one is =
    let both = and_parts (bytes_eq one.text text) (same_case ignore_case one.ignore_case) is in
    ((bytes_eq-Decides one.text text).0 both.0, alike ignore_case one.ignore_case both.1)

found : (text : List ℕ) (ignore_case : Bool) (kept : List Made) (one : Made) → Some one ≡ made_of text ignore_case kept → IsSame text ignore_case one
found text ignore_case [] one h = absurd (none-some one (sym h))
found text ignore_case (first ∷ more) one h = by_test (found text ignore_case more one) (cases_Bool (is_of text ignore_case first))
  where
    by_test : (Some one ≡ made_of text ignore_case more → IsSame text ignore_case one) → (is_of text ignore_case first ≡ true) ⊎ (is_of text ignore_case first ≡ false)
        → IsSame text ignore_case one
    by_test later (inl is) =
        let e : Some first ≡ Some one = sym (cond-true _ (Some first) (made_of text ignore_case more) is) ∙ sym h in
        subst (IsSame text ignore_case) (same_Some _ _ e) (same text ignore_case first is)
    by_test later (inr not_this) = later (h ∙ cond-false _ (Some first) (made_of text ignore_case more) not_this)

-- what was found matches as the text
pub matches-found : (text : List ℕ) (ignore_case : Bool) (kept : List Made) (one : Made) (re : Re) → Some one ≡ made_of text ignore_case kept
    → MatchesAs one.ignore_case one.text re → MatchesAs ignore_case text re
matches-found text ignore_case kept one re h matches =
    let both = found text ignore_case kept one h in
    subst (λ (c : Bool). MatchesAs c text re) both.1 (subst (λ (t : List ℕ). MatchesAs one.ignore_case t re) both.0 matches)

-- what is counted for one more
pub bytes-more : (kept : List Made) (one : Made) → bytes_of (kept ++ one ∷ []) ≡ bytes_of kept + one.bytes
bytes-more kept one = sum_by-append (λ (m : Made). m.bytes) kept (one ∷ []) ∙ grind arith
