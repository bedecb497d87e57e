-- What holds of each element of a list, by its place.
use Rattle.std.proofs.Common.{◌≡◌, ℕ, zero, suc, List, [], ◌∷◌, ◌++◌, map, replicate, Some, refl, subst}
use Rattle.std.specs.List.{slice_get}
use Rattle.std.proofs.lemmas.Option.{none-some}
use Rattle.sg_list.proofs.ListLemmas.{some-same}

abbrev pub EachElement : {A : Type 0} → (A → Type 0) → List A → Type 0
EachElement {A = A} P xs = (i : ℕ) (x : A) → slice_get xs i ≡ Some x → P x

pub each-none : {A : Type 0} (P : A → Type 0) → EachElement P []
each-none P i x e = absurd (none-some x e)

pub each-push : {A : Type 0} (P : A → Type 0) (y : A) (ys : List A) → P y → EachElement P ys → EachElement P (y ∷ ys)
each-push P y ys p rest zero x e = subst P (some-same y x e) p
each-push P y ys p rest (suc i) x e = rest i x e

pub each-append : {A : Type 0} (P : A → Type 0) (xs ys : List A) → EachElement P xs → EachElement P ys → EachElement P (xs ++ ys)
each-append P [] ys p q = q
each-append P (x ∷ xs) ys p q = each-push P x (xs ++ ys) (p zero x refl) (each-append P xs ys (λ i y e. p (suc i) y e) q)

pub each-replicate : {A : Type 0} (P : A → Type 0) (n : ℕ) (y : A) → P y → EachElement P (replicate n y)
each-replicate P zero y p = each-none P
each-replicate P (suc n) y p = each-push P y (replicate n y) p (each-replicate P n y p)

pub each-map : {A B : Type 0} (P : B → Type 0) (f : A → B) (xs : List A) → ((x : A) → P (f x)) → EachElement P (map f xs)
each-map P f [] p = each-none P
each-map P f (x ∷ xs) p = each-push P (f x) (map f xs) (p x) (each-map P f xs p)
