-- Lemmas on the moments of runs.
use Rattle.std.proofs.Common.{◌≡◌, ℕ, suc, zero, ◌+◌, ◌-◌, ◌<◌, ◌≤◌, max, List, [], ◌∷◌, ◌++◌, length, drop, get_or, refl, ap, sym, ◌∙◌, arith, append_assoc, replicate, length-append}
use Rattle.std.specs.Prelude.{ℤ, pos}
use Rattle.std.proofs.lemmas.List.{get_or-drop, drop-replicate, length-replicate, append-nil}
use Rattle.sg_frame.specs.declared.moments.TimedRun.{TimedRun}
use Rattle.sg_frame.specs.Kept.{moments, runs_end}

pub moments-past : (place : ℕ) (run : TimedRun) (runs : List TimedRun) → run.end ≤ place → moments place (run ∷ runs) ≡ moments place runs
moments-past place run runs h =
    let none : run.end - place ≡ 0 = omega arith in
    let most : max place run.end ≡ place = omega arith in
    ap (λ n. replicate n run.at ++ moments (max place run.end) runs) none ∙ ap (λ m. moments m runs) most

pub runs_end-past : (place : ℕ) (run : TimedRun) (runs : List TimedRun) → run.end ≤ place → runs_end place (run ∷ runs) ≡ runs_end place runs
runs_end-past place run runs h =
    let most : max place run.end ≡ place = omega arith in ap (λ m. runs_end m runs) most

pub moments-front : (place : ℕ) (run : TimedRun) (runs : List TimedRun) → place < run.end
    → moments place (run ∷ runs) ≡ run.at ∷ (replicate (run.end - place - 1) run.at ++ moments (max place run.end) runs)
moments-front place run runs h =
    let some : run.end - place ≡ suc (run.end - place - 1) = omega arith in
    ap (λ n. replicate n run.at ++ moments (max place run.end) runs) some

drop-append : {X : Type 0} (xs ys : List X) (n : ℕ) → drop n (xs ++ ys) ≡ drop n xs ++ drop (n - length xs) ys
drop-append [] ys zero = refl
drop-append [] ys (suc n) = let e : suc n ≡ suc n - 0 = omega arith in ap (λ m. drop m ys) e
drop-append (x ∷ xs) ys zero = let e : 0 ≡ 0 - suc (length xs) = omega arith in ap (λ m. (x ∷ xs) ++ drop m ys) e
drop-append (x ∷ xs) ys (suc n) =
    let e : n - length xs ≡ suc n - suc (length xs) = omega arith in
    drop-append xs ys n ∙ ap (λ m. drop n xs ++ drop m ys) e

drop-nil_moments : (k : ℕ) → drop k (let xs : List ℤ = [] in xs) ≡ []
drop-nil_moments zero = refl
drop-nil_moments (suc k) = refl

-- dropping bytes drops their moments
pub moments-drop : (place k : ℕ) (runs : List TimedRun) → drop k (moments place runs) ≡ moments (place + k) runs
moments-drop place k [] = drop-nil_moments k
moments-drop place k (run ∷ runs) =
    let left : run.end - place - k ≡ run.end - (place + k) = omega arith in
    let next : max place run.end + (k - (run.end - place)) ≡ max (place + k) run.end = omega arith in
    drop-append (replicate (run.end - place) run.at) (moments (max place run.end) runs) k
    ∙ ap (λ r. r ++ drop (k - length (replicate (run.end - place) run.at)) (moments (max place run.end) runs)) (drop-replicate k (run.end - place) run.at)
    ∙ ap (λ n. replicate (run.end - place - k) run.at ++ drop (k - n) (moments (max place run.end) runs)) (length-replicate (run.end - place) run.at)
    ∙ ap (λ r. replicate (run.end - place - k) run.at ++ r) (moments-drop (max place run.end) (k - (run.end - place)) runs)
    ∙ ap (λ n. replicate n run.at ++ moments (max place run.end + (k - (run.end - place))) runs) left
    ∙ ap (λ m. replicate (run.end - (place + k)) run.at ++ moments m runs) next

pub runs_end-ge : (place : ℕ) (runs : List TimedRun) → place ≤ runs_end place runs
runs_end-ge place [] = omega arith
runs_end-ge place (run ∷ runs) = omega (arith, runs_end-ge (max place run.end) runs)

pub runs_end-move : (place k : ℕ) (runs : List TimedRun) → place + k ≤ runs_end place runs → runs_end (place + k) runs ≡ runs_end place runs
runs_end-move place k [] h = omega arith
runs_end-move place k (run ∷ runs) h =
    let next : max (place + k) run.end ≡ max place run.end + (max (place + k) run.end - max place run.end) = omega arith in
    let below : max place run.end + (max (place + k) run.end - max place run.end) ≤ runs_end (max place run.end) runs = omega (arith, runs_end-ge (max place run.end) runs) in
    ap (λ m. runs_end m runs) next ∙ runs_end-move (max place run.end) (max (place + k) run.end - max place run.end) runs below

pub length-moments : (place : ℕ) (runs : List TimedRun) → place + length (moments place runs) ≡ runs_end place runs
length-moments place [] = omega arith
length-moments place (run ∷ runs) =
    omega (arith, length-moments (max place run.end) runs, length-append (replicate (run.end - place) run.at) (moments (max place run.end) runs), length-replicate (run.end - place) run.at)

pub moments-push : (place : ℕ) (runs : List TimedRun) (run : TimedRun) → moments place (runs ++ run ∷ []) ≡ moments place runs ++ replicate (run.end - runs_end place runs) run.at
moments-push place [] run = append-nil (replicate (run.end - place) run.at)
moments-push place (first ∷ runs) run =
    ap (λ r. replicate (first.end - place) first.at ++ r) (moments-push (max place first.end) runs run)
    ∙ sym (append_assoc (replicate (first.end - place) first.at) (moments (max place first.end) runs) (replicate (run.end - runs_end (max place first.end) runs) run.at))

pub runs_end-push : (place : ℕ) (runs : List TimedRun) (run : TimedRun) → runs_end place (runs ++ run ∷ []) ≡ max (runs_end place runs) run.end
runs_end-push place [] run = refl
runs_end-push place (first ∷ runs) run = runs_end-push (max place first.end) runs run

pub front-split : (runs : List TimedRun) (run : TimedRun) → 0 < length runs → run ≡ get_or runs 0 run → runs ≡ run ∷ drop 1 runs
front-split [] run h e = absurd (omega arith)
front-split (first ∷ runs) run h e = ap (λ r. r ∷ runs) (sym e)

pub no-runs : (runs : List TimedRun) → length runs ≤ 0 → runs ≡ []
no-runs [] h = refl
no-runs (run ∷ runs) h = absurd (omega arith)

pub moment-at : (place last : ℕ) (runs : List TimedRun) (at : ℤ) (rest : List ℤ) → moments (place + last) runs ≡ at ∷ rest
    → at ≡ get_or (moments place runs) last (pos 0)
moment-at place last runs at rest is =
    let same : last + 0 ≡ last = omega arith in
    ap (λ ms. get_or ms 0 (pos 0)) (sym is) ∙ ap (λ ms. get_or ms 0 (pos 0)) (sym (moments-drop place last runs))
    ∙ get_or-drop last (moments place runs) 0 (pos 0) ∙ ap (λ n. get_or (moments place runs) n (pos 0)) same

-- what moves over a span of the bytes
pub moments-move : (place taken : ℕ) (runs left : List TimedRun) → moments (place + taken) left ≡ moments (place + taken) runs
    → moments (place + taken) left ≡ drop taken (moments place runs)
moments-move place taken runs left is = is ∙ sym (moments-drop place taken runs)
