-- Lists of parts, one item at a time.
use Rattle.std.proofs.Common.{◌≡◌, ◌<◌, ◌≤◌, ℕ, List, [], ◌∷◌, ◌++◌, length, take, set, Some, refl, sym, ap, ◌∙◌, arith, suc, zero, slice_get, map}
use Rattle.sg_list.specs.Lists.{change}
use Rattle.sg_list.proofs.ListLemmas.{some-same}

-- a write of one item is a change of what is seen
pub seen-write : {A B : Type 0} (f : A → B) (g : B → B) (xs : List A) (k : ℕ) (x y : A) → slice_get xs k ≡ Some x → f y ≡ g (f x) → map f (set xs k y) ≡ change (map f xs) k g
seen-write f g [] k x y e h = refl
seen-write f g (z ∷ xs) zero x y e h = let same = some-same z x e in ap (λ v. v ∷ map f xs) (h ∙ ap (λ v. g (f v)) (sym same))
seen-write f g (z ∷ xs) (suc k) x y e h = ap (λ vs. f z ∷ vs) (seen-write f g xs k x y e h)

-- one that doesn't show
pub seen-same : {A B : Type 0} (f : A → B) (xs : List A) (k : ℕ) (x y : A) → slice_get xs k ≡ Some x → f y ≡ f x → map f (set xs k y) ≡ map f xs
seen-same f [] k x y e h = refl
seen-same f (z ∷ xs) zero x y e h = let same = some-same z x e in ap (λ v. v ∷ map f xs) (h ∙ ap f (sym same))
seen-same f (z ∷ xs) (suc k) x y e h = ap (λ vs. f z ∷ vs) (seen-same f xs k x y e h)

-- one item more

pub get-front : {A : Type 0} (xs : List A) (x : A) (k : ℕ) → k < length xs → slice_get (xs ++ x ∷ []) k ≡ slice_get xs k
get-front [] x k l = absurd (omega (arith, l))
get-front (y ∷ xs) x zero l = refl
get-front (y ∷ xs) x (suc k) l = get-front xs x k (omega (arith, l))

pub get-last : {A : Type 0} (xs : List A) (x : A) → slice_get (xs ++ x ∷ []) (length xs) ≡ Some x
get-last [] x = refl
get-last (y ∷ xs) x = get-last xs x

pub take-front : {A : Type 0} (xs ys : List A) (k : ℕ) → k ≤ length xs → take k (xs ++ ys) ≡ take k xs
take-front xs ys zero l = refl
take-front [] ys (suc k) l = absurd (omega (arith, l))
take-front (x ∷ xs) ys (suc k) l = ap (λ zs. x ∷ zs) (take-front xs ys k (omega (arith, l)))

pub take-whole : {A : Type 0} (xs ys : List A) → take (length xs) (xs ++ ys) ≡ xs
take-whole [] ys = refl
take-whole (x ∷ xs) ys = ap (λ zs. x ∷ zs) (take-whole xs ys)
