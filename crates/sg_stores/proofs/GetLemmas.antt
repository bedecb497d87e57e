-- What stands at a place of a list.
use Rattle.std.proofs.Common.{◌≡◌, ◌≢◌, ◌⊎◌, inl, inr, ℕ, zero, suc, ◌+◌, ◌<◌, List, [], ◌∷◌, ◌++◌, length, map, drop, get_or, slice_get, Some, None, refl, sym, ap, ◌∙◌, arith}
use Rattle.sg_list.specs.Lists.{change}
use Rattle.sg_list.proofs.ListLemmas.{some-same}

-- in a changed list it is the old item, or the new one
pub get-changed : {A : Type 0} (xs : List A) (k j : ℕ) (x y : A) → slice_get (change xs k (λ _. x)) j ≡ Some y → ((j ≡ k) × (y ≡ x)) ⊎ ((j ≢ k) × (slice_get xs j ≡ Some y))
get-changed [] k j x y h = absurd (let wrong : None ≡ Some y = h in cc)
get-changed (z ∷ xs) zero zero x y h = inl (refl, sym (some-same x y h))
get-changed (z ∷ xs) zero (suc j) x y h = inr ((λ e. omega arith), h)
get-changed (z ∷ xs) (suc k) zero x y h = inr ((λ e. omega arith), h)
get-changed (z ∷ xs) (suc k) (suc j) x y h = elim (get-changed xs k j x y h) [
  | inl p ↦ inl (ap suc p.0, p.1)
  | inr p ↦ inr ((λ e. p.0 (omega arith)), p.1)
]

pub get-map : {A B : Type 0} (f : A → B) (xs : List A) (k : ℕ) (y : B) → slice_get (map f xs) k ≡ Some y → (x : A) × (slice_get xs k ≡ Some x) × (y ≡ f x)
get-map f [] k y h = absurd (let wrong : None ≡ Some y = h in cc)
get-map f (x ∷ xs) zero y h = (x, refl, sym (some-same (f x) y h))
get-map f (x ∷ xs) (suc k) y h = get-map f xs k y h

-- the list with one item more
pub get-push : {A : Type 0} (xs : List A) (x : A) (k : ℕ) (y : A) → slice_get (xs ++ x ∷ []) k ≡ Some y → ((k < length xs) × (slice_get xs k ≡ Some y)) ⊎ ((k ≡ length xs) × (y ≡ x))
get-push [] x zero y h = inr (refl, sym (some-same x y h))
get-push [] x (suc k) y h = absurd (let wrong : None ≡ Some y = h in cc)
get-push (z ∷ xs) x zero y h = inl (omega arith, h)
get-push (z ∷ xs) x (suc k) y h = elim (get-push xs x k y h) [
  | inl p ↦ inl (omega (arith, p.0), p.1)
  | inr p ↦ inr (ap suc p.0, p.1)
]

-- an item between others
pub get-between : {A : Type 0} (xs ys : List A) (x : A) (k : ℕ) (y : A) → slice_get (xs ++ x ∷ ys) k ≡ Some y
    → ((k < length xs) × (slice_get xs k ≡ Some y)) ⊎ (((k ≡ length xs) × (y ≡ x)) ⊎ ((j : ℕ) × (k ≡ length xs + suc j) × (slice_get ys j ≡ Some y)))
get-between [] ys x zero y h = inr (inl (refl, sym (some-same x y h)))
get-between [] ys x (suc k) y h = inr (inr (k, omega arith, h))
get-between (z ∷ xs) ys x zero y h = inl (omega arith, h)
get-between (z ∷ xs) ys x (suc k) y h = elim (get-between xs ys x k y h) [
  | inl p ↦ inl (omega (arith, p.0), p.1)
  | inr q ↦ elim q [
    | inl p ↦ inr (inl (ap suc p.0, p.1))
    | inr p ↦ inr (inr (p.0, (let e = p.1 in omega (arith, e)), p.2))
  ]
]

pub get-middle : {A : Type 0} (xs ys : List A) (x : A) → slice_get (xs ++ x ∷ ys) (length xs) ≡ Some x
get-middle [] ys x = refl
get-middle (z ∷ xs) ys x = get-middle xs ys x

pub get-drop : {A : Type 0} (n : ℕ) (xs : List A) (k : ℕ) → slice_get xs (n + k) ≡ slice_get (drop n xs) k
get-drop zero xs k = let e : 0 + k ≡ k = omega arith in ap (slice_get xs) e
get-drop (suc n) [] k = refl
get-drop (suc n) (x ∷ xs) k = let e : suc n + k ≡ suc (n + k) = omega arith in ap (slice_get (x ∷ xs)) e ∙ get-drop n xs k

pub get-index : {A : Type 0} (xs : List A) (n : ℕ) (d : A) → n < length xs → slice_get xs n ≡ Some (get_or xs n d)
get-index [] n d low = absurd (omega (arith, low))
get-index (x ∷ xs) zero d low = refl
get-index (x ∷ xs) (suc n) d low = get-index xs n d (omega (arith, low))

pub none-of : {A : Type 0} (xs : List A) → length xs ≡ 0 → xs ≡ []
none-of [] none = refl
none-of (x ∷ xs) none = absurd (omega (arith, none))
