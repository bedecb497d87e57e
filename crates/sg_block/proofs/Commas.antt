-- The tokens at the front that pass.
use Rattle.std.proofs.Common.{◌≡◌, ℕ, zero, suc, ◌+◌, Bool, true, false, cond, List, [], ◌∷◌, drop, refl, ap, ◌∙◌, arith}
use Rattle.std.specs.List.{prefix_len}
use Rattle.sg_list.specs.Lists.{passes_at}
use Rattle.sg_list.proofs.ListLemmas.{drop-get, passes_at-some}

here : {A : Type 0} (p : A → Bool) (xs : List A) (k : ℕ) → passes_at xs k p ≡ false → prefix_len p (drop k xs) ≡ 0
here p [] k h = none k
  where
    none : (n : ℕ) → prefix_len p (drop n []) ≡ 0
    none zero = refl
    none (suc n) = refl
here p (x ∷ xs) zero h = ap (λ (b : Bool). cond b (1 + prefix_len p xs) 0) h
here p (x ∷ xs) (suc k) h = here p xs k h

more : {A : Type 0} (p : A → Bool) (xs : List A) (k : ℕ) → passes_at xs k p ≡ true → prefix_len p (drop k xs) ≡ 1 + prefix_len p (drop (k + 1) xs)
more p xs k h =
    let found = passes_at-some xs k p h in
    ap (prefix_len p) (drop-get xs k found.0 found.1) ∙ ap (λ (b : Bool). cond b (1 + prefix_len p (drop (k + 1) xs)) 0) found.2

pub prefix-stop : {A : Type 0} (p : A → Bool) (xs : List A) (k : ℕ) → prefix_len p xs ≡ k + prefix_len p (drop k xs) → passes_at xs k p ≡ false → k ≡ prefix_len p xs
prefix-stop p xs k counted h = let none = here p xs k h in omega arith

pub prefix-more : {A : Type 0} (p : A → Bool) (xs : List A) (k : ℕ) → prefix_len p xs ≡ k + prefix_len p (drop k xs) → passes_at xs k p ≡ true → prefix_len p xs ≡ k + 1 + prefix_len p (drop (k + 1) xs)
prefix-more p xs k counted h = let one = more p xs k h in omega arith
