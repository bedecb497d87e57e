-- A slot more.
use Rattle.std.proofs.Common.{◌≡◌, ◌∙◌, ℕ, ◌+◌, List, [], ◌∷◌, ◌++◌, map, sym, ap, arith}
use Rattle.std.specs.List.{range_with_len}
use Rattle.std.proofs.lemmas.List.{append_assoc}
use Rattle.std.proofs.lemmas.List.FromFn.{map-range_with_len_more}

pub slots-more : {X : Type 0} (f : ℕ → X) (xs ys zs : List X) (x : X) (n : ℕ) → ys ≡ xs ++ map f (range_with_len 0 n) → zs ≡ ys ++ x ∷ [] → x ≡ f n → zs ≡ xs ++ map f (range_with_len 0 (n + 1))
slots-more f xs ys zs x n before pushed is =
    pushed ∙ (λ i. before i ++ is i ∷ []) ∙ append_assoc xs (map f (range_with_len 0 n)) (f n ∷ []) ∙ ap (λ m. xs ++ m) (sym (map-range_with_len_more f 0 n n (omega arith)))
