-- The places behind the first entries.
use Rattle.std.proofs.Common.{◌≡◌, ◌⊎◌, inl, inr, ⊎_elim, ℕ, zero, suc, ◌+◌, ◌-◌, ◌<◌, ◌≤◌, List, [], ◌∷◌, ◌++◌, length, take, drop, refl, sym, ◌∙◌, ap, subst, arith, Some, None, Option}
use Rattle.std.proofs.lemmas.Bool.Decides.{nat_tests}
use Rattle.sg_spool.specs.Places.{AreGatesOrdered, skipped, gate_past}
use Rattle.sg_spool.specs.Ring.{Entries, EntryRun, IsEntry, IsRow, IsLaid, space}
use Rattle.sg_spool.specs.declared.places.Places.{Places}
use Rattle.sg_spool.proofs.Rings.{run_grows}
use Rattle.sg_spool.specs.Advancing.{IsReadyAt, IsFirstSize}

-- the first entry stands at the first gate
pub first_entry : (jump : Option ℕ) (head end : ℕ) (p : List ℕ) (es : Entries) (c : List ℕ) → IsRow jump c head end (p ∷ es) → IsEntry c (gate_past jump head) p
first_entry None head end p es c row = row.0
first_entry (Some jump) head end p es c row = wrapped row.first row.second row.both row.to_jump row.from_front
  where
    wrapped : (first second : Entries) → (p ∷ es) ≡ first ++ second → EntryRun c head first jump → EntryRun c 64 second end → IsEntry c (gate_past (Some jump) head) p
    wrapped [] [] both to_jump from_front = absurd (let e : (p ∷ es) ≡ [] = both in cc)
    wrapped [] (q ∷ qs) both to_jump from_front =
        let same : p ≡ q = let e : (p ∷ es) ≡ (q ∷ qs) = both in cc in
        let here : gate_past (Some jump) head ≡ 64 = let at : head ≡ jump = to_jump in grind (arith, nat_tests) in
        subst (λ (k : ℕ). IsEntry c k p) (sym here) (subst (λ (l : List ℕ). IsEntry c 64 l) (sym same) from_front.0)
    wrapped (q ∷ qs) second both to_jump from_front =
        let same : p ≡ q = let e : (p ∷ es) ≡ (q ∷ (qs ++ second)) = both in cc in
        let up = run_grows c (head + 5 + length q) qs jump to_jump.1 in
        let here : gate_past (Some jump) head ≡ head = grind (arith, nat_tests) in
        subst (λ (k : ℕ). IsEntry c k p) (sym here) (subst (λ (l : List ℕ). IsEntry c head l) (sym same) to_jump.0)

-- the entries behind the first ones, which take so many bytes
run_drop : (c : List ℕ) (gate : ℕ) (es : Entries) (end n : ℕ) → n ≤ length es → EntryRun c gate es end → EntryRun c (gate + space (take n es)) (drop n es) end
run_drop c gate es end zero le run = subst (λ (k : ℕ). EntryRun c k es end) (let n : gate ≡ gate + 0 = omega arith in n) run
run_drop c gate [] end (suc n) le run = absurd (omega (arith, le))
run_drop c gate (p ∷ ps) end (suc n) le run =
    subst (λ (k : ℕ). EntryRun c k (drop n ps) end) (let same : gate + 5 + length p + space (take n ps) ≡ gate + (5 + length p + space (take n ps)) = omega arith in same) (run_drop c (gate + 5 + length p) ps end n (omega (arith, le)) run.1)

-- where the first ones stand before the jump, the others go on from there; else they stand behind it
abbrev SplitsRing : List ℕ → ℕ → ℕ → ℕ → Entries → ℕ → Entries → Type 0
SplitsRing c head jump end second size left = ((size < jump - head) × ((rest : Entries) × (left ≡ rest ++ second) × EntryRun c (head + size) rest jump))
    ⊎ ((jump - head ≤ size) × EntryRun c (64 + (size - (jump - head))) left end)

split_drop : (c : List ℕ) (head jump end : ℕ) (first second : Entries) (n : ℕ) → n ≤ length (first ++ second) → EntryRun c head first jump → EntryRun c 64 second end → SplitsRing c head jump end second (space (take n (first ++ second))) (drop n (first ++ second))
split_drop c head jump end [] second n le to_jump from_front =
    let at : head ≡ jump = to_jump in
    let same : 64 + space (take n second) ≡ 64 + (space (take n second) - (jump - head)) = omega (arith, at) in
    inr (omega (arith, at), subst (λ (k : ℕ). EntryRun c k (drop n second) end) same (run_drop c 64 second end n le from_front))
split_drop c head jump end (q ∷ qs) second zero le to_jump from_front =
    let up = run_grows c (head + 5 + length q) qs jump to_jump.1 in
    inl (omega (arith, up), (q ∷ qs, refl, subst (λ (k : ℕ). EntryRun c k (q ∷ qs) jump) (let n : head ≡ head + 0 = omega arith in n) to_jump))
split_drop c head jump end (q ∷ qs) second (suc n) le to_jump from_front =
    let up = run_grows c (head + 5 + length q) qs jump to_jump.1 in
    let size = space (take n (qs ++ second)) in
    ⊎_elim
    (λ before. inl (let lt = before.0 in omega (arith, lt, up), (before.1.0, before.1.1, subst (λ (k : ℕ). EntryRun c k before.1.0 jump) (let same : head + 5 + length q + size ≡ head + (5 + length q + size) = omega arith in same) before.1.2)))
    (λ behind. inr (let le = behind.0 in omega (arith, le, up), subst (λ (k : ℕ). EntryRun c k (drop n (qs ++ second)) end) (let le = behind.0 in let same : 64 + (size - (jump - (head + 5 + length q))) ≡ 64 + (5 + length q + size - (jump - head)) = omega (arith, le, up) in same) behind.1))
    (split_drop c (head + 5 + length q) jump end qs second n (omega (arith, le)) to_jump.1 from_front)

-- behind the first entries the others stand
pub ready_skip : (jump : Option ℕ) (head end n size : ℕ) (es : Entries) (c : List ℕ) → AreGatesOrdered jump head end → n ≤ length es → size ≡ space (take n es) → IsLaid jump head end es c → IsReadyAt (skipped jump head end size) (drop n es) c
ready_skip None head end n size es c ordered le sized laid =
    let run = subst (λ (k : ℕ). EntryRun c k (drop n es) end) (ap (λ (m : ℕ). head + m) (sym sized)) (run_drop c head es end n le laid.row) in
    let up = run_grows c (head + size) (drop n es) end run in
    let inside = laid.ends.inside in
    record {
      size = laid.buffer.size;
      high = omega (arith, ordered.0);
      low = omega (arith, ordered.0, ordered.1);
      inside = omega (arith, up, inside);
      row = run;
      ends = laid.ends;
      below = tt;
    }
ready_skip (Some jump) head end n size es c ordered le sized laid =
    let row = laid.row in
    let both = row.both in
    let le2 : n ≤ length (row.first ++ row.second) = subst (λ (l : Entries). n ≤ length l) both le in
    let sized2 : space (take n (row.first ++ row.second)) ≡ size = ap (λ (l : Entries). space (take n l)) (sym both) ∙ sym sized in
    let split = subst (λ (m : ℕ). SplitsRing c head jump end row.second m (drop n (row.first ++ row.second))) sized2 (split_drop c head jump end row.first row.second n le2 row.to_jump row.from_front) in
    let left : drop n es ≡ drop n (row.first ++ row.second) = ap (λ (l : Entries). drop n l) both in
    subst (λ (l : Entries). IsReadyAt (skipped (Some jump) head end size) l c) (sym left) (⊎_elim (λ before. in_row before.0 before.1.0 before.1.1 before.1.2) (λ behind. at_front behind.0 behind.1) split)
  where
    low : 64 ≤ end
    low = ordered.0

    below : end < head
    below = ordered.1

    in_row : size < jump - head → (rest : Entries) → drop n (laid.row.first ++ laid.row.second) ≡ rest ++ laid.row.second → EntryRun c (head + size) rest jump → IsReadyAt (skipped (Some jump) head end size) (drop n (laid.row.first ++ laid.row.second)) c
    in_row lt rest is run =
        let places : skipped (Some jump) head end size ≡ record { jump = Some jump; head = head + size; end = end } = grind (arith, nat_tests) in
        let whole = laid.row.jumps.whole in
        subst (λ (q : Places). IsReadyAt q (drop n (laid.row.first ++ laid.row.second)) c) (sym places) (record {
          size = laid.buffer.size;
          high = omega (arith, low, below);
          low = low;
          inside = omega (arith, lt, whole);
          row = record { first = rest; second = laid.row.second; both = is; to_jump = run; jumps = laid.row.jumps; from_front = laid.row.from_front };
          ends = laid.ends;
          below = omega (arith, below);
        })

    at_front : jump - head ≤ size → EntryRun c (64 + (size - (jump - head))) (drop n (laid.row.first ++ laid.row.second)) end → IsReadyAt (skipped (Some jump) head end size) (drop n (laid.row.first ++ laid.row.second)) c
    at_front le run =
        let places : skipped (Some jump) head end size ≡ record { jump = None; head = 64 + (size - (jump - head)); end = end } = grind (arith, nat_tests) in
        let up = run_grows c (64 + (size - (jump - head))) (drop n (laid.row.first ++ laid.row.second)) end run in
        let inside = laid.ends.inside in
        subst (λ (q : Places). IsReadyAt q (drop n (laid.row.first ++ laid.row.second)) c) (sym places) (record {
          size = laid.buffer.size;
          high = omega arith;
          low = low;
          inside = omega (arith, up, inside);
          row = run;
          ends = laid.ends;
          below = tt;
        })

-- the entry behind so many others
pub drop_split : (k : ℕ) (es : Entries) → k < length es → (p : List ℕ) × (ps : Entries) × (drop k es ≡ p ∷ ps) × (drop (suc k) es ≡ ps)
drop_split k [] lt = absurd (omega (arith, lt))
drop_split zero (e ∷ es) lt = (e, es, refl, refl)
drop_split (suc k) (e ∷ es) lt = drop_split k es (omega (arith, lt))

pub known_size : (known : Option ℕ) (p : List ℕ) (ps : Entries) → IsFirstSize known (p ∷ ps) → (known ≡ None) ⊎ (known ≡ Some (length p))
known_size None p ps is = inl refl
known_size (Some n) p ps is = inr (ap (λ (k : ℕ). Some k) is)

pub first_none : (es : Entries) → IsFirstSize None es
first_none es = tt
