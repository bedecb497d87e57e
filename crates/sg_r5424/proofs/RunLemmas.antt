-- The bytes at the front of a text that pass a test, and texts cut in two.
use Rattle.std.proofs.Common.{◌≡◌, ℕ, suc, ◌+◌, Bool, true, false, ◌&&◌, cond, nat_eq, sym, ◌∙◌, List, [], ◌∷◌, ◌++◌, length, take, drop, refl, ap, arith}
use Rattle.std.specs.List.{AllPass, prefix_len, starts_with}
use Rattle.std.proofs.lemmas.List.Elements.{All-nil, All-cons, All-head, All-tail}
use Rattle.std.proofs.lemmas.Bool.{false≢true, eqb-true, eq-eqb}
use Rattle.sg_r5424.specs.Data.{StopsAtByte}

-- a run of bytes that pass, with nothing behind it that passes, is as long as the front that passes
pub run_len : (passes : ℕ → Bool) (xs ys : List ℕ) → AllPass passes xs → StopsAtByte passes ys → prefix_len passes (xs ++ ys) ≡ length xs
run_len passes [] [] all stops = refl
run_len passes [] (y ∷ ys) all stops = rw stops refl
run_len passes (x ∷ xs) ys all stops =
    let first : passes x ≡ true = All-head (λ b. passes b ≡ true) x xs all in
    let more = run_len passes xs ys (All-tail (λ b. passes b ≡ true) x xs all) stops in
    rw first (omega (arith, more))

-- what follows the front that passes
stops_at : (passes : ℕ → Bool) (x : ℕ) (xs : List ℕ) (b : Bool) → passes x ≡ b → StopsAtByte passes (drop (prefix_len passes xs) xs) → StopsAtByte passes (drop (cond b (1 + prefix_len passes xs) 0) (x ∷ xs))
stops_at passes x xs true e more = let one : 1 + prefix_len passes xs ≡ suc (prefix_len passes xs) = omega arith in rw one more
stops_at passes x xs false e more = e

pub run_stops : (passes : ℕ → Bool) (xs : List ℕ) → StopsAtByte passes (drop (prefix_len passes xs) xs)
run_stops passes [] = tt
run_stops passes (x ∷ xs) = stops_at passes x xs (passes x) refl (run_stops passes xs)

passes_at : (passes : ℕ → Bool) (x : ℕ) (xs : List ℕ) (b : Bool) → passes x ≡ b → AllPass passes (take (prefix_len passes xs) xs) → AllPass passes (take (cond b (1 + prefix_len passes xs) 0) (x ∷ xs))
passes_at passes x xs true e more =
    let one : 1 + prefix_len passes xs ≡ suc (prefix_len passes xs) = omega arith in
    rw one (All-cons (λ b. passes b ≡ true) x (take (prefix_len passes xs) xs) e more)
passes_at passes x xs false e more = All-nil (λ b. passes b ≡ true)

pub run_passes : (passes : ℕ → Bool) (xs : List ℕ) → AllPass passes (take (prefix_len passes xs) xs)
run_passes passes [] = All-nil (λ b. passes b ≡ true)
run_passes passes (x ∷ xs) = passes_at passes x xs (passes x) refl (run_passes passes xs)

-- a text that is cut at one place
pub cut_same : (a b s t : List ℕ) → a ++ s ≡ b ++ t → length a ≡ length b → (a ≡ b) × (s ≡ t)
cut_same [] [] s t e n = (refl, e)
cut_same [] (y ∷ b) s t e n = absurd (omega (arith, n))
cut_same (x ∷ a) [] s t e n = absurd (omega (arith, n))
cut_same (x ∷ a) (y ∷ b) s t e n =
    let head : x ≡ y = cc in
    let tail : a ++ s ≡ b ++ t = cc in
    let r = cut_same a b s t tail (omega (arith, n)) in
    let front : a ≡ b = r.0 in
    (cc, r.1)

-- a text that begins with these bytes
pub and_true : (p q : Bool) → p && q ≡ true → (p ≡ true) × (q ≡ true)
and_true true true e = (refl, refl)
and_true true false e = absurd (false≢true e)
and_true false q e = absurd (false≢true e)

pub begins : (front text : List ℕ) → starts_with nat_eq text front ≡ true → text ≡ front ++ drop (length front) text
begins [] text e = refl
begins (f ∷ front) [] e = absurd (false≢true e)
begins (f ∷ front) (x ∷ text) e =
    let both = and_true (nat_eq f x) (starts_with nat_eq text front) e in
    let head : x ≡ f = sym (eqb-true f x both.0) in
    let tail : text ≡ front ++ drop (length front) text = begins front text both.1 in
    ap (λ b. b ∷ text) head ∙ ap (λ t. f ∷ t) tail

pub begins_with : (front rest : List ℕ) → starts_with nat_eq (front ++ rest) front ≡ true
begins_with [] rest = refl
begins_with (f ∷ front) rest = rw (eq-eqb f f refl) (begins_with front rest)
