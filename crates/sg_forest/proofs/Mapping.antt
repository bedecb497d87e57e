-- Lists made item by item.
use Rattle.std.proofs.Common.{◌≡◌, ◌∙◌, ℕ, ◌+◌, ◌<◌, ◌≤◌, List, [], ◌∷◌, ◌++◌, length, get_or, take, map, sym, ap}
use Rattle.std.specs.List.{flat_map}
use Rattle.std.proofs.lemmas.List.{take_more, take_all, append-nil, append_assoc}
use Rattle.sg_filter.proofs.Turning.{map-last}

pub map-one : {A B : Type 0} (f : A → B) (old new : List A) (x : A) → new ≡ old ++ x ∷ [] → map f new ≡ map f old ++ f x ∷ []
map-one f old new x is = ap (map f) is ∙ map-last f old x

pub maps-more : {A B C : Type 0} (f : A → C) (g : B → C) (old new : List A) (x : A) (ys : List B) (i : ℕ) (y : B)
    → i < length ys → y ≡ get_or ys i y → map f old ≡ map g (take i ys) → f x ≡ g y → new ≡ old ++ x ∷ [] → map f new ≡ map g (take (i + 1) ys)
maps-more f g old new x ys i y below here before same is =
    map-one f old new x is
    ∙ (λ k. before k ++ same k ∷ [])
    ∙ sym (map-last g (take i ys) y)
    ∙ ap (λ (z : _). map g (take i ys ++ z ∷ [])) here
    ∙ ap (map g) (sym (take_more ys i y below))

pub maps-all : {A B C : Type 0} (f : A → C) (g : B → C) (made : List A) (ys : List B) (i : ℕ) → length ys ≤ i → map f made ≡ map g (take i ys) → map f made ≡ map g ys
maps-all f g made ys i past before = before ∙ ap (map g) (take_all i ys past)

flat-last : {X A : Type 0} (f : X → List A) (xs : List X) (x : X) → flat_map f (xs ++ x ∷ []) ≡ flat_map f xs ++ f x
flat-last f [] x = append-nil (f x)
flat-last f (y ∷ xs) x = ap (λ p. f y ++ p) (flat-last f xs x) ∙ sym (append_assoc (f y) (flat_map f xs) (f x))

-- one more of those whose parts stand one behind another
pub flat-next : {X A : Type 0} (f : X → List A) (xs : List X) (i : ℕ) (x : X) → i < length xs → x ≡ get_or xs i x → flat_map f (take (i + 1) xs) ≡ flat_map f (take i xs) ++ f x
flat-next f xs i x below here = ap (flat_map f) (take_more xs i x below ∙ ap (λ y. take i xs ++ y ∷ []) (sym here)) ∙ flat-last f (take i xs) x
