-- Lemmas on the numbers of those that are marked.
use Rattle.std.proofs.Common.{◌≡◌, ℕ, ◌+◌, Bool, true, false, List, [], ◌∷◌, ◌++◌, drop, Some, append_assoc, refl, sym, ap, ◌∙◌, slice_get, map, zero, suc}
use Rattle.std.specs.Prelude.{option_map}
use Rattle.sg_list.proofs.ListLemmas.{drop-get}
use Rattle.sg_serve.specs.Counts.{numbers_from}

numbers-front : (k : ℕ) (m : Bool) (marks : List Bool) → numbers_from k (m ∷ []) ++ numbers_from (k + 1) marks ≡ numbers_from k (m ∷ marks)
numbers-front k true marks = refl
numbers-front k false marks = refl

pub numbers-next : (numbers : List ℕ) (marks : List Bool) (k : ℕ) (m : Bool) (all : List ℕ) → slice_get marks k ≡ Some m → numbers ++ numbers_from k (drop k marks) ≡ all
    → (numbers ++ numbers_from k (m ∷ [])) ++ numbers_from (k + 1) (drop (k + 1) marks) ≡ all
numbers-next numbers marks k m all at h =
    append_assoc numbers (numbers_from k (m ∷ [])) (numbers_from (k + 1) (drop (k + 1) marks))
    ∙ ap (λ ns. numbers ++ ns) (numbers-front k m (drop (k + 1) marks) ∙ ap (numbers_from k) (sym (drop-get marks k m at))) ∙ h

pub get-mapped : {A B : Type 0} (f : A → B) (xs : List A) (k : ℕ) → slice_get (map f xs) k ≡ option_map f (slice_get xs k)
get-mapped f [] k = refl
get-mapped f (x ∷ xs) zero = refl
get-mapped f (x ∷ xs) (suc k) = get-mapped f xs k
