-- Lists of destinations, one of which is changed.
use Rattle.std.proofs.Common.{◌≡◌, ◌≢◌, ℕ, List, [], ◌∷◌, Some, None, refl, ap, ◌∙◌, arith, suc, zero, slice_get, map}
use Rattle.sg_list.specs.Lists.{change}
use Rattle.sg_list.proofs.ListLemmas.{some-same}

-- two functions that agree on each item
pub map-agree : {A B : Type 0} (f g : A → B) (xs : List A) → ((k : ℕ) (x : A) → slice_get xs k ≡ Some x → f x ≡ g x) → map f xs ≡ map g xs
map-agree f g [] h = refl
map-agree f g (x ∷ xs) h =
    ap (λ y. y ∷ map f xs) (h 0 x refl) ∙ ap (λ ys. g x ∷ ys) (map-agree f g xs (λ k y e. h (suc k) y e))

-- a function after a change, and another before it, which agree on all other items
pub map-change-two : {A B : Type 0} (f g : A → B) (t : A → A) (h : B → B) (xs : List A) (k : ℕ) (x : A) → slice_get xs k ≡ Some x → g (t x) ≡ h (f x)
    → ((j : ℕ) (y : A) → slice_get xs j ≡ Some y → j ≢ k → g y ≡ f y) → map g (change xs k t) ≡ change (map f xs) k h
map-change-two f g t h [] k x e here others = let wrong : None ≡ Some x = e in cc
map-change-two {A} {B} f g t h (z ∷ xs) zero x e here others =
    let same = some-same z x e in
    let first : g (t z) ≡ h (f z) = rw same here in
    let rest = map-agree g f xs (λ k y i. others (suc k) y i (λ w. omega arith)) in
    ap (λ (y : B). y ∷ map g xs) first ∙ ap (λ (ys : List B). h (f z) ∷ ys) rest
map-change-two {A} {B} f g t h (z ∷ xs) (suc k) x e here others =
    let first = others 0 z refl (λ w. omega arith) in
    let rest = map-change-two f g t h xs k x e here (λ j y i ne. others (suc j) y i (λ w. ne (omega arith))) in
    ap (λ (y : B). y ∷ map g (change xs k t)) first ∙ ap (λ (ys : List B). f z ∷ ys) rest
