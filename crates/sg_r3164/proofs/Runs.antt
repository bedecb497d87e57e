-- Bytes that pass a test, up to the first that doesn't.
use Rattle.std.proofs.Common.{◌≡◌, ℕ, List, [], ◌∷◌, ◌++◌, refl, subst}
use Rattle.std.specs.List.{All}
use Rattle.std.proofs.lemmas.List.Elements.{All-head, All-tail}

-- two runs at the front of one text, each with a byte behind it that doesn't pass, are one
pub run_same : (P : ℕ → Type 0) (xs ys : List ℕ) (a b : ℕ) (s t : List ℕ) → All P xs → All P ys → ¬ P a → ¬ P b → xs ++ a ∷ s ≡ ys ++ b ∷ t → (xs ≡ ys) × (a ∷ s ≡ b ∷ t)
run_same P [] [] a b s t hx hy na nb e = (refl, e)
run_same P [] (y ∷ ys) a b s t hx hy na nb e =
    let same : y ≡ a = cc in
    absurd (na (subst P same (All-head P y ys hy)))
run_same P (x ∷ xs) [] a b s t hx hy na nb e =
    let same : x ≡ b = cc in
    absurd (nb (subst P same (All-head P x xs hx)))
run_same P (x ∷ xs) (y ∷ ys) a b s t hx hy na nb e =
    let tail : xs ++ a ∷ s ≡ ys ++ b ∷ t = cc in
    let head : x ≡ y = cc in
    let r = run_same P xs ys a b s t (All-tail P x xs hx) (All-tail P y ys hy) na nb tail in
    let front : xs ≡ ys = r.0 in
    (cc, r.1)
