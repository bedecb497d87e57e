-- What frames take as entries of the store.
use Rattle.std.proofs.Common.{◌≡◌, ◌≤◌, ◌-◌, ℕ, zero, suc, ◌+◌, List, [], ◌∷◌, ◌++◌, length, take, drop, sym, ◌∙◌, ap, arith, Some, None, slice_get}
use Rattle.std.proofs.lemmas.List.{take-append-drop}
use Rattle.sg_overflow.specs.Memory.{size_of}

pub size_append : (xs ys : List (List ℕ)) → size_of (xs ++ ys) ≡ size_of xs + size_of ys
size_append [] ys = omega arith
size_append (x ∷ xs) ys = let more = size_append xs ys in omega (arith, more)

size_parts : (n : ℕ) (xs : List (List ℕ)) → size_of (take n xs) + size_of (drop n xs) ≡ size_of xs
size_parts n xs = sym (size_append (take n xs) (drop n xs)) ∙ ap size_of (take-append-drop n xs)

pub size_drop : (n : ℕ) (xs : List (List ℕ)) → size_of (drop n xs) ≤ size_of xs
size_drop n xs = let parts = size_parts n xs in omega (arith, parts)

pub size_take : (n : ℕ) (xs : List (List ℕ)) → size_of (take n xs) ≤ size_of xs
size_take n xs = let parts = size_parts n xs in omega (arith, parts)

pub some_is : {A : Type 0} (a b : A) → Some a ≡ Some b → a ≡ b
some_is a b is = cc

pub none_some : {A : Type 0} (a : A) → None ≡ Some a → ⊥
none_some a is = let wrong : None ≡ Some a = is in cc

pub size_at : (xs : List (List ℕ)) (i : ℕ) (x : List ℕ) → slice_get xs i ≡ Some x → length x + 6 ≤ size_of xs
size_at [] i x at = absurd (none_some x at)
size_at (y ∷ ys) zero x at = let same : length y ≡ length x = ap length (some_is y x at) in omega (arith, same)
size_at (y ∷ ys) (suc i) x at = let more = size_at ys i x at in omega (arith, more)

-- ---- the frame at a place

pub none_there : (xs : List (List ℕ)) (i : ℕ) → slice_get xs i ≡ None → length xs ≤ i
none_there [] i none = omega arith
none_there (x ∷ xs) zero none = absurd (none_some x (sym none))
none_there (x ∷ xs) (suc i) none = let less = none_there xs i none in omega (arith, less)

pub take_there : (xs : List (List ℕ)) (i : ℕ) (x : List ℕ) → slice_get xs i ≡ Some x → take (suc i) xs ≡ take i xs ++ x ∷ []
take_there [] i x at = absurd (none_some x at)
take_there (y ∷ ys) zero x at = ap (λ (l : List ℕ). l ∷ []) (some_is y x at)
take_there (y ∷ ys) (suc i) x at = ap (λ (l : List (List ℕ)). y ∷ l) (take_there ys i x at)

pub take_one : (xs : List (List ℕ)) (i : ℕ) (x : List ℕ) → slice_get xs i ≡ Some x → take (i + 1) xs ≡ take i xs ++ x ∷ []
take_one xs i x at = (let more : i + 1 ≡ suc i = omega arith in ap (λ (k : ℕ). take k xs) more) ∙ take_there xs i x at

-- ---- the last frame goes

pub cut_size : (all rest : List (List ℕ)) (frame bytes : List ℕ) (n : ℕ) → all ≡ rest ++ frame ∷ [] → n ≡ size_of all → bytes ≡ frame → (length bytes + 6 ≤ n) × (n - (length bytes + 6) ≡ size_of rest)
cut_size all rest frame bytes n parts size same =
    let sum = ap size_of parts ∙ size_append rest (frame ∷ []) in
    let long : length bytes ≡ length frame = ap length same in (
      omega (arith, sum, size, long),
      omega (arith, sum, size, long),
    )
