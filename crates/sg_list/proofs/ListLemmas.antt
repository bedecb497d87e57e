-- Changes of an item of a list, and look-ups.
use Rattle.std.proofs.Common.{◌≡◌, ◌≢◌, ℕ, ◌+◌, ◌<◌, ◌≤◌, List, [], ◌∷◌, length, get_or, set, drop, Some, None, refl, ap, arith, suc, zero, add-one, Bool, true, false, slice_get, map, ◌++◌, inl, inr, sym, ◌⊎◌, drop-cons}
use Rattle.std.proofs.lemmas.List.{drop_all}
use Rattle.sg_list.specs.Lists.{change, passes_at}

-- a change is a write of the changed item
pub change-set : {A : Type 0} (xs : List A) (k : ℕ) (f : A → A) (x : A) → slice_get xs k ≡ Some x → change xs k f ≡ set xs k (f x)
change-set [] k f x e = refl
change-set (y ∷ xs) zero f x e = grind arith
change-set (y ∷ xs) (suc k) f x e = ap (λ ys. y ∷ ys) (change-set xs k f x e)

-- the same, where the item is found with a default
pub change-get_or : {A : Type 0} (xs : List A) (k : ℕ) (f : A → A) (d : A) → k < length xs → change xs k f ≡ set xs k (f (get_or xs k d))
change-get_or [] k f d h = refl
change-get_or (x ∷ xs) zero f d h = refl
change-get_or (x ∷ xs) (suc k) f d h = ap (λ ys. x ∷ ys) (change-get_or xs k f d (omega arith))

pub length-change : {A : Type 0} (xs : List A) (k : ℕ) (f : A → A) → length (change xs k f) ≡ length xs
length-change [] k f = refl
length-change (x ∷ xs) zero f = refl
length-change (x ∷ xs) (suc k) f = ap suc (length-change xs k f)

-- a change where there is no item
pub change-none : {A : Type 0} (xs : List A) (k : ℕ) (f : A → A) → slice_get xs k ≡ None → change xs k f ≡ xs
change-none [] k f e = refl
change-none (x ∷ xs) zero f e = let wrong : Some x ≡ None = e in cc
change-none (x ∷ xs) (suc k) f e = ap (λ ys. x ∷ ys) (change-none xs k f e)

pub get-change-same : {A : Type 0} (xs : List A) (k : ℕ) (f : A → A) (x : A) → slice_get xs k ≡ Some x → slice_get (change xs k f) k ≡ Some (f x)
get-change-same [] k f x e = grind arith
get-change-same (y ∷ xs) zero f x e = grind arith
get-change-same (y ∷ xs) (suc k) f x e = get-change-same xs k f x e

pub get-change-other : {A : Type 0} (xs : List A) (k j : ℕ) (f : A → A) → j ≢ k → slice_get (change xs k f) j ≡ slice_get xs j
get-change-other [] k j f h = refl
get-change-other (x ∷ xs) zero zero f h = absurd (h refl)
get-change-other (x ∷ xs) zero (suc j) f h = refl
get-change-other (x ∷ xs) (suc k) zero f h = refl
get-change-other (x ∷ xs) (suc k) (suc j) f h = get-change-other xs k j f (λ e. h (ap suc e))

-- a function of each item, before and after a change
pub map-change : {A B : Type 0} (g : A → B) (xs : List A) (k : ℕ) (f : A → A) (h : B → B) → ((x : A) → g (f x) ≡ h (g x)) → map g (change xs k f) ≡ change (map g xs) k h
map-change g [] k f h e = refl
map-change g (x ∷ xs) zero f h e = ap (λ y. y ∷ map g xs) (e x)
map-change g (x ∷ xs) (suc k) f h e = ap (λ ys. g x ∷ ys) (map-change g xs k f h e)

pub slice_get-none : {A : Type 0} (xs : List A) (k : ℕ) → length xs ≤ k → slice_get xs k ≡ None
slice_get-none [] k h = refl
slice_get-none (y ∷ xs) zero h = absurd (omega arith)
slice_get-none (y ∷ xs) (suc k) h = slice_get-none xs k (omega arith)

pub slice_get-some : {A : Type 0} (xs : List A) (k : ℕ) → k < length xs → (x : A) × (slice_get xs k ≡ Some x)
slice_get-some [] k h = absurd (omega arith)
slice_get-some (y ∷ xs) zero h = (y, refl)
slice_get-some (y ∷ xs) (suc k) h = slice_get-some xs k (omega arith)

pub slice_get-below : {A : Type 0} (xs : List A) (k : ℕ) (x : A) → slice_get xs k ≡ Some x → k < length xs
slice_get-below [] k x e = let wrong : None ≡ Some x = e in cc
slice_get-below (y ∷ xs) zero x e = omega arith
slice_get-below (y ∷ xs) (suc k) x e = omega (arith, slice_get-below xs k x e)

pub slice_get-map : {A B : Type 0} (g : A → B) (xs : List A) (k : ℕ) (x : A) → slice_get xs k ≡ Some x → slice_get (map g xs) k ≡ Some (g x)
slice_get-map g [] k x e = let wrong : None ≡ Some x = e in cc
slice_get-map g (y ∷ xs) zero x e = grind arith
slice_get-map g (y ∷ xs) (suc k) x e = slice_get-map g xs k x e

-- the item at a place, in front of those behind it
pub drop-get : {A : Type 0} (xs : List A) (k : ℕ) (x : A) → slice_get xs k ≡ Some x → drop k xs ≡ x ∷ drop (k + 1) xs
drop-get [] k x e = grind arith
drop-get (y ∷ xs) zero x e = grind arith
drop-get (y ∷ xs) (suc k) x e = rw add-one (rw add-one at (drop-get xs k x e))

-- an item that passes is there
pub passes_at-some : {A : Type 0} (xs : List A) (k : ℕ) (p : A → Bool) → passes_at xs k p ≡ true → (x : A) × (slice_get xs k ≡ Some x) × (p x ≡ true)
passes_at-some [] k p h = let wrong : false ≡ true = h in cc
passes_at-some (x ∷ xs) zero p h = (x, refl, h)
passes_at-some (x ∷ xs) (suc k) p h = passes_at-some xs k p h

pub some-same : {A : Type 0} (x y : A) → Some x ≡ Some y → x ≡ y
some-same x y e = cc

pub ruleset at_place = (change-set, length-change)

-- behind a place that the list lacks there is nothing
pub slice_get-all : {A : Type 0} (xs : List A) (k : ℕ) → slice_get xs k ≡ None → drop k xs ≡ []
slice_get-all [] k e = drop_all k [] (omega arith)
slice_get-all (x ∷ xs) zero e = let wrong : Some x ≡ None = e in cc
slice_get-all (x ∷ xs) (suc k) e = let rest = slice_get-all xs k e in grind (arith, rest)

pub drop-front : {A : Type 0} (xs ys : List A) → drop (length xs) (xs ++ ys) ≡ ys
drop-front [] ys = refl
drop-front (x ∷ xs) ys = drop-front xs ys

-- an item of a changed list was there, as it is or changed
pub get-change : {A : Type 0} (xs : List A) (k j : ℕ) (f : A → A) (y : A) → slice_get (change xs k f) j ≡ Some y
    → (x : A) × (slice_get xs j ≡ Some x) × (((j ≡ k) × (y ≡ f x)) ⊎ ((j ≢ k) × (y ≡ x)))
get-change [] k j f y h = let wrong : None ≡ Some y = h in cc
get-change (x ∷ xs) zero zero f y h = (x, refl, inl (refl, sym (some-same (f x) y h)))
get-change (x ∷ xs) zero (suc j) f y h = (y, h, inr ((λ e. omega arith), refl))
get-change (x ∷ xs) (suc k) zero f y h = (x, refl, inr ((λ e. omega arith), sym (some-same x y h)))
get-change (x ∷ xs) (suc k) (suc j) f y h =
    let r = get-change xs k j f y h in (
      r.0,
      r.1,
      elim r.2 [
        | inl p ↦ inl (ap suc p.0, p.1)
        | inr p ↦ inr ((λ e. p.0 (omega arith)), p.1)
      ],
    )

-- a change that keeps a part of each item
pub map-kept : {A B : Type 0} (g : A → B) (f : A → A) (xs : List A) (k : ℕ) → ((x : A) → g (f x) ≡ g x) → map g (change xs k f) ≡ map g xs
map-kept g f [] k h = refl
map-kept g f (x ∷ xs) zero h = ap (λ y. y ∷ map g xs) (h x)
map-kept g f (x ∷ xs) (suc k) h = ap (λ ys. g x ∷ ys) (map-kept g f xs k h)

-- a text from one byte on
pub from_here : (text : List ℕ) (place b : ℕ) → place < length text → get_or text place 0 ≡ b → drop place text ≡ b ∷ drop (place + 1) text
from_here text place b h e = rw (add-one, ← e) (drop-cons text place 0 h)
