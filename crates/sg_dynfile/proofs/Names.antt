-- Paths in a list, and the list without one of them.
use Rattle.std.proofs.Common.{◌≡◌, ◌≢◌, ◌<◌, ℕ, suc, ◌+◌, get_or, List, [], ◌∷◌, ◌++◌, length, take, drop, refl, ap, ◌∙◌, sym, arith, length-append, length-take, length-drop, get_or-take}
use Rattle.std.specs.Prelude.{true, false, ◌==◌, bytes_eq}
use Rattle.std.specs.List.{Contains}
use mathlib.Core.Logic.{◌⊎◌, inl, inr}
use Rattle.std.proofs.lemmas.Bool.Decides.{eqb_tells}
use Rattle.std.proofs.lemmas.Slice.Eq.{bytes_eq-Decides}
use Rattle.std.proofs.lemmas.List.{get_or-drop, get_or_default}
use Rattle.sg_dynfile.specs.Tracks.{IsPlaceOf, StandsAt}
use Rattle.std.proofs.lemmas.List.Elements.{Contains-append_cases}
use Rattle.sg_device.specs.Paths.{without_path}
use Rattle.sg_device.proofs.PathLemmas.{without-here}

contains-take : (i : ℕ) (xs : List (List ℕ)) (x : List ℕ) → Contains (take i xs) x → Contains xs x
contains-take i xs x (k, lt, is) =
    let short = length-take i xs in
    let near : k < i = omega (arith, lt, short) in
    (k, omega (arith, lt, short), sym (get_or-take i xs k x near) ∙ is)

contains-drop : (i : ℕ) (xs : List (List ℕ)) (x : List ℕ) → Contains (drop i xs) x → Contains xs x
contains-drop i xs x (k, lt, is) = (i + k, omega (arith, lt, length-drop i xs), sym (get_or-drop i xs k x) ∙ is)

either : {A B C : Type 0} → (A → C) → (B → C) → A ⊎ B → C
either f g (inl a) = f a
either f g (inr b) = g b

-- what is in the list without one place was in it before
pub contains-removed : (i : ℕ) (xs : List (List ℕ)) (x : List ℕ) → Contains (take i xs ++ drop (i + 1) xs) x → Contains xs x
contains-removed i xs x is = either (contains-take i xs x) (contains-drop (i + 1) xs x) (Contains-append_cases (take i xs) (drop (i + 1) xs) x is)

pub length-removed : (i : ℕ) (xs : List (List ℕ)) → i < length xs → length (take i xs ++ drop (i + 1) xs) + 1 ≡ length xs
length-removed i xs lt = omega (arith, length-append (take i xs) (drop (i + 1) xs), length-take i xs, length-drop (i + 1) xs)

-- a path that is found stands at its first place
pub found : (path : List ℕ) (names : List (List ℕ)) (i : ℕ) → without_path path names ≡ take i names ++ without_path path (drop i names) → i < length names → bytes_eq (get_or names i []) path ≡ true → IsPlaceOf path names i
found path names i before lt same = record {
  inside = lt;
  here = get_or_default names i path [] lt ∙ (bytes_eq-Decides (get_or names i []) path).0 same;
  without = before ∙ ap (λ (l : List (List ℕ)). take i names ++ l) (without-here path names i lt same);
}

-- another path stands at none of the places so far
pub other-more : (path : List ℕ) (names : List (List ℕ)) (i : ℕ) → ((k : ℕ) → k < i → get_or names k path ≡ path → ⊥) → i < length names → bytes_eq (get_or names i []) path ≡ false → (k : ℕ) → k < i + 1 → get_or names k path ≡ path → ⊥
other-more path names i before lt differs k near is = either at behind (eqb_tells k i)
  where
    at : ((k == i) ≡ true) × (k ≡ i) → ⊥
    at (t, same) =
        let here : get_or names i [] ≡ path = get_or_default names i [] path lt ∙ ap (λ (n : ℕ). get_or names n path) (sym same) ∙ is in
        let wrong : true ≡ false = sym ((bytes_eq-Decides (get_or names i []) path).1 here) ∙ differs in
        cc

    behind : ((k == i) ≡ false) × (k ≢ i) → ⊥
    behind (t, not) = before k (omega (arith, near, not)) is

-- the last of a list stands behind the others
stands-more : (y : List ℕ) (xs : List (List ℕ)) (x : List ℕ) (k : ℕ) → StandsAt x xs k → StandsAt x (y ∷ xs) (suc k)
stands-more y xs x k (lt, is) = (omega (arith, lt), is)

pub stands-last : (xs : List (List ℕ)) (x : List ℕ) → StandsAt x (xs ++ x ∷ []) (length xs)
stands-last [] x = (omega arith, refl)
stands-last (y ∷ xs) x = stands-more y (xs ++ x ∷ []) x (length xs) (stands-last xs x)

-- a path stands at its first place, and is in the list
pub stands-first : (path : List ℕ) (names : List (List ℕ)) (place : ℕ) → IsPlaceOf path names place → StandsAt path names place
stands-first path names place at = (at.inside, sym (get_or_default names place path [] at.inside) ∙ at.here)
