-- The run of the first entries, one more at a time.
use Rattle.std.proofs.Common.{◌≡◌, ℕ, ◌+◌, ◌-◌, ◌<◌, ◌≤◌, List, [], ◌∷◌, drop, Some, None, refl, ap, ◌∙◌, arith, suc, zero, slice_get, true, false}
use Rattle.std.specs.Prelude.{nat_le}
use Rattle.sg_list.proofs.ListLemmas.{drop-get, slice_get-all}
use Rattle.sg_sinks.specs.Runs.{run_from}

run-cons : (m room x : ℕ) (xs : List ℕ) → 0 < m → x ≤ room → run_from m room (x ∷ xs) ≡ 1 + run_from (m - 1) (room - x) xs
run-cons zero room x xs some fits = absurd (omega (arith, some))
run-cons (suc m) room x xs some fits =
    let yes : nat_le x room ≡ true = grind (arith, fits) in
    let less : suc m - 1 ≡ m = omega arith in
    rw (yes, less) refl

run-over : (m room x : ℕ) (xs : List ℕ) → room < x → run_from m room (x ∷ xs) ≡ 0
run-over zero room x xs over = refl
run-over (suc m) room x xs over = let no : nat_le x room ≡ false = grind (arith, over) in rw no refl

run-nil : (m room : ℕ) → run_from m room [] ≡ 0
run-nil zero room = refl
run-nil (suc m) room = refl

pub run-none : (room : ℕ) (xs : List ℕ) → run_from 0 room xs ≡ 0
run-none room xs = refl

pub run-step : (m room k x : ℕ) (xs : List ℕ) → slice_get xs k ≡ Some x → 0 < m → x ≤ room → run_from m room (drop k xs) ≡ 1 + run_from (m - 1) (room - x) (drop (k + 1) xs)
run-step m room k x xs h some fits = rw (drop-get xs k x h) (run-cons m room x (drop (k + 1) xs) some fits)

pub run-full : (m room k x : ℕ) (xs : List ℕ) → slice_get xs k ≡ Some x → room < x → run_from m room (drop k xs) ≡ 0
run-full m room k x xs h over = rw (drop-get xs k x h) (run-over m room x (drop (k + 1) xs) over)

pub run-end : (m room k : ℕ) (xs : List ℕ) → slice_get xs k ≡ None → run_from m room (drop k xs) ≡ 0
run-end m room k xs h = rw (slice_get-all xs k h) (run-nil m room)
