-- More numbers than there are places for them.
use Rattle.std.proofs.Common.{◌≡◌, ℕ, zero, suc, ◌+◌, ◌-◌, ◌<◌, ◌≤◌, cond, ltb, refl, sym, ap, ◌∙◌, inl, inr, ◌⊎◌, ⊎_elim, arith}
use Rattle.std.proofs.lemmas.Bool.{cases_eq, cases_lt}
use Rattle.std.proofs.lemmas.Bool.Decides.{nat_tests}

find-value : (f : ℕ → ℕ) (y n : ℕ) → ((k : ℕ) × (k < n) × (f k ≡ y)) ⊎ ((k : ℕ) → k < n → f k ≡ y → ⊥)
find-value f y zero = inr (λ k below e. omega (arith, below))
find-value f y (suc n) =
    ⊎_elim
    (λ found. inl (found.0, omega (arith, found.1), found.2))
    (λ none. ⊎_elim
    (λ e. inl (n, omega arith, e))
    (λ other. inr (λ k below e. ⊎_elim (λ lower. none k lower e) (λ above. let same : n ≡ k = omega (arith, below, above) in other (ap f same ∙ e)) (cases_lt k n)))
    (cases_eq (f n) y))
    (find-value f y n)

-- the numbers but y, without a gap
squeezed : ℕ → ℕ → ℕ
squeezed y x = cond (ltb y x) (x - 1) x

squeezed-below : (y x n : ℕ) → (x ≡ y → ⊥) → x < suc n → y < suc n → squeezed y x < n
unfolding squeezed
squeezed-below y x n other below here = grind (arith, nat_tests)

squeezed-same : (y a b : ℕ) → (a ≡ y → ⊥) → (b ≡ y → ⊥) → squeezed y a ≡ squeezed y b → a ≡ b
unfolding squeezed
squeezed-same y a b first second e = grind (arith, nat_tests)

-- two of n + 1 numbers below n are the same
pub two-alike : (n : ℕ) (f : ℕ → ℕ) → ((k : ℕ) → k ≤ n → f k < n) → (i : ℕ) × (j : ℕ) × (i < j) × (j ≤ n) × (f i ≡ f j)
two-alike zero f below = absurd (omega (arith, below 0 (omega arith)))
two-alike (suc n) f below =
    let y : ℕ = f (suc n) in
    ⊎_elim
    (λ found. (found.0, suc n, omega (arith, found.1), omega arith, found.2))
    (λ none.
    let apart : (k : ℕ) → k ≤ n → f k ≡ y → ⊥ = λ k h. none k (omega (arith, h)) in
    let r = two-alike n (λ k. squeezed y (f k)) (λ k h. squeezed-below y (f k) n (apart k h) (below k (omega (arith, h))) (below (suc n) (omega arith))) in
    (r.0, r.1, r.2, omega (arith, r.3), squeezed-same y (f r.0) (f r.1) (apart r.0 (omega (arith, r.2, r.3))) (apart r.1 r.3) r.4))
    (find-value f y (suc n))
