-- What the front of a window loses, and what it stands for.
use Rattle.std.proofs.Common.{◌≡◌, ◌≢◌, ℕ, ◌-◌, ◌<◌, ◌≤◌, List, [], ◌∷◌, ◌++◌, length, get_or, set, drop, refl, arith, suc, zero}
use Rattle.sg_window.specs.declared.tracker.BegunRecord.{BegunRecord}
use Rattle.sg_list.specs.Lists.{change}
use Rattle.sg_list.proofs.ListLemmas.{change-get_or, length-change}
use Rattle.sg_window.specs.Window.{outstanding, mark_from, one_less, Window, WindowStandsFor, after_begin, after_ack, first_waiting, left_at}
use Rattle.std.proofs.lemmas.List.{length_push}

pub outstanding-outstanding : (rs : List BegunRecord) → outstanding (outstanding rs) ≡ outstanding rs
outstanding-outstanding [] = refl
outstanding-outstanding (r ∷ rs) = grind (arith, outstanding-outstanding rs)

pub outstanding-step : (rs : List BegunRecord) (r : BegunRecord) → 0 < length rs → r ≡ get_or rs 0 r → r.left ≡ 0 → outstanding (drop 1 rs) ≡ outstanding rs
outstanding-step [] r l e z = absurd (omega arith)
outstanding-step (x ∷ rs) r l e z = grind arith

pub mark_from-step : (rs : List BegunRecord) (from : ℕ) (r : BegunRecord) → 0 < length rs → r ≡ get_or rs 0 r → r.left ≡ 0 → mark_from r.end (drop 1 rs) ≡ mark_from from rs
mark_from-step [] from r l e z = absurd (omega arith)
mark_from-step (x ∷ rs) from r l e z = grind arith

pub outstanding-stop : (rs : List BegunRecord) (r : BegunRecord) → 0 < length rs → r ≡ get_or rs 0 r → r.left ≢ 0 → outstanding rs ≡ rs
outstanding-stop [] r l e z = refl
outstanding-stop (x ∷ rs) r l e z = grind arith

pub mark_from-stop : (rs : List BegunRecord) (from : ℕ) (r : BegunRecord) → 0 < length rs → r ≡ get_or rs 0 r → r.left ≢ 0 → mark_from from rs ≡ from
mark_from-stop [] from r l e z = refl
mark_from-stop (x ∷ rs) from r l e z = grind arith

pub change-write : (xs : List BegunRecord) (k j : ℕ) (r : BegunRecord) → k < length xs → j ≡ k → r ≡ get_or xs j r → change xs k one_less ≡ set xs j (record { end = r.end; left = r.left - 1 })
change-write xs k j r h i e = let here : change xs k one_less ≡ set xs k (one_less (get_or xs k r)) = change-get_or xs k one_less r h in grind arith

pub outstanding-append : (rs qs : List BegunRecord) → outstanding (outstanding rs ++ qs) ≡ outstanding (rs ++ qs)
outstanding-append [] qs = refl
outstanding-append (r ∷ rs) qs = grind (arith, outstanding-append rs qs)

pub mark_from-append : (from : ℕ) (rs qs : List BegunRecord) → mark_from (mark_from from rs) (outstanding rs ++ qs) ≡ mark_from from (rs ++ qs)
mark_from-append from [] qs = refl
mark_from-append from (r ∷ rs) qs = grind (arith, mark_from-append r.end rs qs)

pub outstanding-length : (rs : List BegunRecord) → length (outstanding rs) ≤ length rs
outstanding-length [] = omega arith
outstanding-length (r ∷ rs) = grind (arith, outstanding-length rs)

-- a change behind the prefix
pub outstanding-change : (rs : List BegunRecord) (n : ℕ) (f : BegunRecord → BegunRecord) → length rs - length (outstanding rs) ≤ n → outstanding (change (outstanding rs) (n - (length rs - length (outstanding rs))) f) ≡ outstanding (change rs n f)
outstanding-change [] n f h = refl
outstanding-change (r ∷ rs) zero f h = grind (arith, outstanding-length rs)
outstanding-change (r ∷ rs) (suc n) f h = grind (arith, outstanding-length rs, outstanding-change rs n f)

pub mark_from-change : (from : ℕ) (rs : List BegunRecord) (n : ℕ) (f : BegunRecord → BegunRecord) → length rs - length (outstanding rs) ≤ n → mark_from (mark_from from rs) (change (outstanding rs) (n - (length rs - length (outstanding rs))) f) ≡ mark_from from (change rs n f)
mark_from-change from [] n f h = refl
mark_from-change from (r ∷ rs) zero f h = grind (arith, outstanding-length rs)
mark_from-change from (r ∷ rs) (suc n) f h = grind (arith, outstanding-length rs, mark_from-change r.end rs n f)

pub stands-begin : (w : Window) (end left from : ℕ) (rs : List BegunRecord) → WindowStandsFor w from rs → WindowStandsFor (after_begin w end left) from (rs ++ record { end = end; left = left } ∷ [])
stands-begin w end left from rs h =
    let r : BegunRecord = record { end = end; left = left } in
    rw h (let a = outstanding-append rs (r ∷ []) in let b = mark_from-append from rs (r ∷ []) in let l = length_push rs r in grind (arith, a, b, l))

pub stands-ack : (w : Window) (number from : ℕ) (rs : List BegunRecord) → first_waiting w ≤ number → WindowStandsFor w from rs → WindowStandsFor (after_ack w number) from (change rs number one_less)
stands-ack w number from rs f h =
    let g = rw h at f in
    rw h (let a = outstanding-change rs number one_less g in let b = mark_from-change from rs number one_less g in let l = length-change rs number one_less in grind (arith, a, b, l))

-- a record that needs something is there
pub left_at-below : (rs : List BegunRecord) (k : ℕ) → 0 < left_at rs k → k < length rs
left_at-below [] k h = absurd (omega (arith, h))
left_at-below (r ∷ rs) zero h = omega arith
left_at-below (r ∷ rs) (suc k) h = omega (arith, left_at-below rs k h)

-- the record at a place needs what is found there
left_at-same : (rs : List BegunRecord) (k : ℕ) (r : BegunRecord) → 0 < left_at rs k → r ≡ get_or rs k r → 0 < r.left
left_at-same [] k r h e = absurd (omega (arith, h))
left_at-same (x ∷ rs) zero r h e = grind arith
left_at-same (x ∷ rs) (suc k) r h e = left_at-same rs k r h e

pub left_at-get : (rs : List BegunRecord) (k j : ℕ) (r : BegunRecord) → 0 < left_at rs k → j ≡ k → r ≡ get_or rs j r → 0 < r.left
left_at-get rs k j r h i e = left_at-same rs k r h (rw (← i) e)
