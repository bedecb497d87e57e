-- Drivers counted one after another.
use Rattle.std.proofs.Common.{◌≡◌, ◌∙◌, ℕ, ◌+◌, ◌<◌, ◌≤◌, List, [], ◌∷◌, ◌++◌, length, get_or, take, map, refl, sym, ap}
use Rattle.std.specs.List.{fold, flat_map}
use Rattle.std.proofs.lemmas.List.{take_more, take_all, map-append}
use Rattle.std.proofs.lemmas.List.Sums.{fold-append}
use Rattle.sg_visit.specs.Leaves.{Leaf, Leaves}
use Rattle.sg_visit.specs.Visits.{Visits}
use Rattle.sg_visit.proofs.Visiting.{visits-joined}

-- two parts, one behind the other
pub folds-join : {A B : Type 0} (f : B → A → B) (a b c : B) (xs ys zs : List A) → b ≡ fold f a xs → c ≡ fold f b ys → xs ++ ys ≡ zs → c ≡ fold f a zs
folds-join f a b c xs ys zs first second whole = second ∙ ap (λ x. fold f x ys) first ∙ sym (fold-append f a xs ys) ∙ ap (fold f a) whole

-- one more of several things that each are one
pub folds-one : {A B X : Type 0} (f : B → A → B) (one : X → A) (a b c : B) (xs : List X) (i : ℕ) (x : X) → i < length xs → x ≡ get_or xs i x → b ≡ fold f a (map one (take i xs)) → c ≡ f b (one x) → c ≡ fold f a (map one (take (i + 1) xs))
folds-one f one a b c xs i x within item before here =
    folds-join f a b c (map one (take i xs)) (one (get_or xs i x) ∷ []) (map one (take (i + 1) xs)) before
    (here ∙ ap (λ y. f b (one y)) item)
    (sym (map-append one (take i xs) (get_or xs i x ∷ [])) ∙ ap (map one) (sym (take_more xs i x within)))

pub folds-ones : {A B X : Type 0} (f : B → A → B) (one : X → A) (a b : B) (xs : List X) (i : ℕ) → length xs ≤ i → b ≡ fold f a (map one (take i xs)) → b ≡ fold f a (map one xs)
folds-ones f one a b xs i past before = before ∙ ap (λ ys. fold f a (map one ys)) (take_all i xs past)

-- leaves that each have some
pub folds-visited : {A B : Type 0} (f : B → A → B) (parts : Leaf → List A) (leaves : Leaves) (a b : B) → Visits (λ old leaf new. new ≡ fold f old (parts leaf)) leaves a b → b ≡ fold f a (flat_map parts leaves)
folds-visited {A = A} {B = B} f parts leaves a b visits =
    visits-joined parts (λ (xs : List A) (old new : B). new ≡ fold f old xs) (λ x. refl)
    (λ xs ys x y z first second. folds-join f x y z xs ys (xs ++ ys) first second refl) leaves a b visits
