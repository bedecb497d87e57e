-- Parts of lists.
use Rattle.std.proofs.Common.{◌≡◌, ℕ, zero, suc, ◌+◌, ◌-◌, ◌<◌, ◌≤◌, List, [], ◌∷◌, ◌++◌, length, take, drop, Some, slice_get, get_or, refl, ap, sym, ◌∙◌, arith}
use Rattle.std.proofs.lemmas.List.{drop-drop, length-drop, length-take-le}

pub none_taken : {A : Type 0} (n : ℕ) → take {A = A} n [] ≡ []
none_taken zero = refl
none_taken (suc n) = refl

pub drop-take : {A : Type 0} (k m : ℕ) (xs : List A) → drop k (take m xs) ≡ take (m - k) (drop k xs)
drop-take zero m xs = ap (λ n. take n xs) (let e : m ≡ m - 0 = omega arith in e)
drop-take (suc k) zero xs = let e : 0 ≡ 0 - suc k = omega arith in ap (λ n. take n (drop (suc k) xs)) e
drop-take (suc k) (suc m) [] = sym (none_taken (suc m - suc k))
drop-take (suc k) (suc m) (x ∷ xs) = let e : m - k ≡ suc m - suc k = omega arith in drop-take k m xs ∙ ap (λ n. take n (drop k xs)) e

pub take-less : {A : Type 0} (a b : ℕ) (xs : List A) → a ≤ b → take a (take b xs) ≡ take a xs
take-less zero b xs h = refl
take-less (suc a) zero xs h = absurd (omega arith)
take-less (suc a) (suc b) [] h = refl
take-less (suc a) (suc b) (x ∷ xs) h = ap (λ ys. x ∷ ys) (take-less a b xs (omega arith))

-- a part's tokens from a place on
pub drop-part : {A : Type 0} (place from to : ℕ) (xs : List A) → take (to - (from + place)) (drop (from + place) xs) ≡ drop place (take (to - from) (drop from xs))
drop-part place from to xs =
    let e : to - (from + place) ≡ to - from - place = omega arith in
    ap (λ n. take n (drop (from + place) xs)) e ∙ ap (take (to - from - place)) (sym (drop-drop place from xs)) ∙ sym (drop-take place (to - from) (drop from xs))

pub take-take : {A : Type 0} (a b : ℕ) (xs : List A) → take a xs ++ take b (drop a xs) ≡ take (a + b) xs
take-take zero b xs = ap (λ n. take n xs) (let e : b ≡ 0 + b = omega arith in e)
take-take (suc a) b [] = none_taken b ∙ sym (none_taken (suc a + b))
take-take (suc a) b (x ∷ xs) = let e : suc (a + b) ≡ suc a + b = omega arith in ap (λ ys. x ∷ ys) (take-take a b xs) ∙ ap (λ n. take n (x ∷ xs)) e

-- an item that a list has at a place
pub got-at : {A : Type 0} (xs : List A) (k : ℕ) (x : A) → k < length xs → x ≡ get_or xs k x → slice_get xs k ≡ Some x
got-at [] k x h e = absurd (omega arith)
got-at (y ∷ xs) zero x h e = ap Some (sym e)
got-at (y ∷ xs) (suc k) x h e = got-at xs k x (omega arith) e

pub take-part : {A : Type 0} (place from to : ℕ) (xs : List A) → place ≤ to - from → take (from + place - from) (drop from xs) ≡ take place (take (to - from) (drop from xs))
take-part place from to xs h =
    let e : from + place - from ≡ place = omega arith in
    ap (λ n. take n (drop from xs)) e ∙ sym (take-less place (to - from) (drop from xs) h)

pub length-part : {A : Type 0} (from to : ℕ) (xs : List A) → from ≤ to → to ≤ length xs → length (take (to - from) (drop from xs)) ≡ to - from
length-part from to xs h le = length-take-le (to - from) (drop from xs) (omega (arith, length-drop from xs))

pub take-all : {A : Type 0} (n : ℕ) (xs : List A) → length xs ≤ n → take n xs ≡ xs
take-all n [] h = none_taken n
take-all zero (x ∷ xs) h = absurd (omega arith)
take-all (suc n) (x ∷ xs) h = ap (λ ys. x ∷ ys) (take-all n xs (omega arith))
