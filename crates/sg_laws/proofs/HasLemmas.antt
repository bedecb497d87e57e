-- What is among the items of a list.
use Rattle.std.proofs.Common.{◌≡◌, ℕ, suc, zero, ◌<◌, List, [], ◌∷◌, length, take, drop, map, Bool, true, false, refl, sym, ap, ◌∙◌, subst, arith, inl, inr, ◌⊎◌, if◌then◌else◌}
use Rattle.std.specs.Prelude.{filter, Contains, slice_index_or}
use Rattle.std.proofs.lemmas.List.Elements.{Contains-append_right}

pub has-nil : {A : Type 0} (x : A) → Contains [] x → ⊥
has-nil x h = let lt = h.1 in omega (arith, lt)

pub has-here : {A : Type 0} (x : A) (xs : List A) → Contains (x ∷ xs) x
has-here x xs = (0, omega arith, refl)

pub has-there : {A : Type 0} (y : A) (xs : List A) (x : A) → Contains xs x → Contains (y ∷ xs) x
has-there y xs x h = Contains-append_right (y ∷ []) xs x h

has-cons-at : {A : Type 0} (y : A) (xs : List A) (x : A) (k : ℕ) → k < length (y ∷ xs) → slice_index_or (y ∷ xs) k x ≡ x → (y ≡ x) ⊎ Contains xs x
has-cons-at y xs x zero lt e = inl e
has-cons-at y xs x (suc k) lt e = inr (k, omega (arith, lt), e)

pub has-cons : {A : Type 0} (y : A) (xs : List A) (x : A) → Contains (y ∷ xs) x → (y ≡ x) ⊎ Contains xs x
has-cons y xs x h = has-cons-at y xs x h.0 h.1 h.2

pub has-map : {A B : Type 0} (f : A → B) (xs : List A) (x : A) → Contains xs x → Contains (map f xs) (f x)
has-map f [] x h = absurd (has-nil x h)
has-map {A} {B} f (y ∷ xs) x h =
    elim (has-cons y xs x h) [
      | inl e ↦ (let P : B → Type 0 = λ z. Contains (map f (y ∷ xs)) z in subst P (ap f e) (has-here (f y) (map f xs)))
      | inr r ↦ has-there (f y) (map f xs) (f x) (has-map f xs x r)
    ]

pub has-mapped : {A B : Type 0} (f : A → B) (xs : List A) (z : B) → Contains (map f xs) z → (x : A) × (Contains xs x × (f x ≡ z))
has-mapped f [] z h = absurd (has-nil z h)
has-mapped f (y ∷ xs) z h =
    elim (has-cons (f y) (map f xs) z h) [
      | inl e ↦ (y, (has-here y xs, e))
      | inr r ↦ (let p = has-mapped f xs z r in (p.0, (has-there y xs p.0 p.1.0, p.1.1)))
    ]

has-filter-if : {A : Type 0} (p : A → Bool) (y : A) (xs : List A) (x : A) (b : Bool) → p y ≡ b → p x ≡ true → (y ≡ x) ⊎ Contains (filter p xs) x → Contains (filter p (y ∷ xs)) x
has-filter-if {A} p y xs x true q t (inl e) =
    let here : filter p (y ∷ xs) ≡ y ∷ filter p xs = rw q refl in
    let P : List A → Type 0 = λ zs. Contains zs x in
    let Q : A → Type 0 = λ z. Contains (y ∷ filter p xs) z in
    subst P (sym here) (subst Q e (has-here y (filter p xs)))
has-filter-if {A} p y xs x true q t (inr r) =
    let here : filter p (y ∷ xs) ≡ y ∷ filter p xs = rw q refl in
    let P : List A → Type 0 = λ zs. Contains zs x in
    subst P (sym here) (has-there y (filter p xs) x r)
has-filter-if {A} p y xs x false q t (inl e) = let wrong : false ≡ true = sym q ∙ ap p e ∙ t in cc
has-filter-if {A} p y xs x false q t (inr r) =
    let here : filter p (y ∷ xs) ≡ filter p xs = rw q refl in
    let P : List A → Type 0 = λ zs. Contains zs x in
    subst P (sym here) r

pub has-filter : {A : Type 0} (p : A → Bool) (xs : List A) (x : A) → p x ≡ true → Contains xs x → Contains (filter p xs) x
has-filter p [] x t h = h
has-filter p (y ∷ xs) x t h =
    has-filter-if p y xs x (p y) refl t (elim (has-cons y xs x h) [ inl e ↦ inl e | inr r ↦ inr (has-filter p xs x t r) ])

has-filtered-if : {A : Type 0} (p : A → Bool) (y : A) (xs : List A) (x : A) (b : Bool) → p y ≡ b → Contains (if b then y ∷ filter p xs else filter p xs) x
    → ((y ≡ x) × (p x ≡ true)) ⊎ Contains (filter p xs) x
has-filtered-if p y xs x true q h = elim (has-cons y (filter p xs) x h) [ inl e ↦ inl (e, sym (ap p e) ∙ q) | inr r ↦ inr r ]
has-filtered-if p y xs x false q h = inr h

pub has-filtered : {A : Type 0} (p : A → Bool) (xs : List A) (x : A) → Contains (filter p xs) x → Contains xs x × (p x ≡ true)
has-filtered p [] x h = absurd (has-nil x h)
has-filtered {A} p (y ∷ xs) x h =
    elim (has-filtered-if p y xs x (p y) refl h) [
      | inl e ↦ (let Q : A → Type 0 = λ z. Contains (y ∷ xs) z in (subst Q e.0 (has-here y xs), e.1))
      | inr r ↦ (let p' = has-filtered p xs x r in (has-there y xs x p'.0, p'.1))
    ]

pub has-take : {A : Type 0} (n : ℕ) (xs : List A) (x : A) → Contains (take n xs) x → Contains xs x
has-take zero xs x h = absurd (has-nil x h)
has-take (suc n) [] x h = h
has-take (suc n) (y ∷ xs) x h =
    elim (has-cons y (take n xs) x h) [
      | inl e ↦ (0, omega arith, e)
      | inr r ↦ has-there y xs x (has-take n xs x r)
    ]

pub has-drop : {A : Type 0} (n : ℕ) (xs : List A) (x : A) → Contains (drop n xs) x → Contains xs x
has-drop zero xs x h = h
has-drop (suc n) [] x h = h
has-drop (suc n) (y ∷ xs) x h = has-there y xs x (has-drop n xs x h)
