-- Bytes that stand for a list are damaged nowhere.
use Rattle.std.proofs.Common.{◌≡◌, ◌≢◌, ◌⊎◌, inl, inr, ℕ, ◌+◌, ◌<◌, ◌≤◌, List, [], ◌∷◌, length, get_or, refl, sym, ◌∙◌, ap, subst, arith, Some, None, Option}
use Rattle.std.proofs.lemmas.Bool.{cases_lt}
use Rattle.sg_stable.specs.Cell.{cell_value, IsFirstNonzero}
use Rattle.sg_spool.specs.Opening.{IsReached, IsBadGate, IsDamagedBehind, IsRingDamagedAt}
use Rattle.sg_spool.specs.Ring.{Entries, IsEntry, EntryRun, IsEnd, IsJump, IsRow, IsLaid, IsList}
use Rattle.sg_spool.proofs.Rings.{run_grows}
use Rattle.sg_spool.proofs.Unique.{run_unique, at_end, at_jump}

-- a run that ends at a closed gate passes no gate at which no entry ends in time
passes : (c : List ℕ) (k end at : ℕ) (ps qs : Entries) → EntryRun c k ps end → EntryRun c k qs at → IsEnd c end → get_or c at 0 ≢ 0 → ((p : List ℕ) → IsEntry c at p → at + 5 + length p ≤ end → ⊥) → ⊥
passes c k end at [] [] one two ends opened none = opened (ap (λ (j : ℕ). get_or c j 0) (sym two ∙ one) ∙ ends.shut)
passes c k end at [] (q ∷ qs) one two ends opened none = two.0.opened (ap (λ (j : ℕ). get_or c j 0) one ∙ ends.shut)
passes c k end at (p ∷ ps) [] one two ends opened none =
    let up = run_grows c (k + 5 + length p) ps end one.1 in
    none p (subst (λ (j : ℕ). IsEntry c j p) two one.0) (subst (λ (j : ℕ). j + 5 + length p ≤ end) two up)
passes c k end at (p ∷ ps) (q ∷ qs) one two ends opened none =
    let long : length q ≡ length p = sym two.0.size ∙ one.0.size in
    passes c (k + 5 + length p) end at ps qs one.1 (subst (λ (n : ℕ). EntryRun c (k + 5 + n) qs at) long two.1) ends opened none

no_bad_gate : (jump other : Option ℕ) (head end at : ℕ) (es fs : Entries) (c : List ℕ) → IsLaid jump head end es c → IsRow other c head at fs → IsBadGate other head at c → ⊥
no_bad_gate None None head end at es fs c laid row bad = passes c head end at es fs laid.row row laid.ends bad.opened (λ p entry in_time. bad.no_entry p entry tt)
no_bad_gate None (Some j) head end at es fs c laid row bad =
    let same = (run_unique c head es row.first end j laid.row row.to_jump (at_end c end laid.ends) (at_jump c j row.jumps)).1 in
    row.jumps.opened (ap (λ (k : ℕ). get_or c k 0) (sym same) ∙ laid.ends.shut)
no_bad_gate (Some j) None head end at es fs c laid row bad =
    let same = (run_unique c head laid.row.first fs j at laid.row.to_jump row (at_jump c j laid.row.jumps) (λ p entry. bad.no_entry p entry tt)).1 in
    bad.no_jump refl (subst (IsJump c) same laid.row.jumps)
no_bad_gate (Some j) (Some i) head end at es fs c laid row bad =
    let below : end < head = laid.below in
    passes c 64 end at laid.row.second row.second laid.row.from_front row.from_front laid.ends bad.opened (λ p entry in_time. bad.no_entry p entry (omega (arith, in_time, below)))

pub no_damage : (es : Entries) (at : ℕ) (c : List ℕ) → IsList es c → IsRingDamagedAt at c → ⊥
no_damage es at c is (inl front) = front.nonzero (is.laid.buffer.zeros at front.inside front.outside)
no_damage es at c is (inr (zeros, inl short)) = let size = is.laid.buffer.size in omega (arith, short.0, size)
no_damage es at c is (inr (zeros, inr (size, inl out))) =
    let at_head = is.laid.buffer.at_head in
    let inside = is.laid.buffer.inside in
    omega (arith, out.0, at_head, inside)
no_damage es at c is (inr (zeros, inr (size, inr walk))) =
    no_bad_gate is.jump walk.1.jump is.head is.end at es walk.1.entries c is.laid (subst (λ (h : ℕ). IsRow walk.1.jump c h at walk.1.entries) is.laid.buffer.at_head walk.1.row) (subst (λ (h : ℕ). IsBadGate walk.1.jump h at c) is.laid.buffer.at_head walk.1.bad)

-- two runs from one gate to gates at which no entry ends in time
meets : (c : List ℕ) (k one two : ℕ) (ps qs : Entries) → EntryRun c k ps one → EntryRun c k qs two
    → ((p : List ℕ) → IsEntry c one p → one + 5 + length p ≤ two → ⊥) → ((p : List ℕ) → IsEntry c two p → two + 5 + length p ≤ one → ⊥) → one ≡ two
meets c k one two [] [] a b no_one no_two = sym a ∙ b
meets c k one two [] (q ∷ qs) a b no_one no_two =
    let up = run_grows c (k + 5 + length q) qs two b.1 in
    absurd (no_one q (subst (λ (j : ℕ). IsEntry c j q) a b.0) (subst (λ (j : ℕ). j + 5 + length q ≤ two) a up))
meets c k one two (p ∷ ps) [] a b no_one no_two =
    let up = run_grows c (k + 5 + length p) ps one a.1 in
    absurd (no_two p (subst (λ (j : ℕ). IsEntry c j p) b a.0) (subst (λ (j : ℕ). j + 5 + length p ≤ one) b up))
meets c k one two (p ∷ ps) (q ∷ qs) a b no_one no_two =
    let long : length q ≡ length p = sym b.0.size ∙ a.0.size in
    meets c (k + 5 + length p) one two ps qs a.1 (subst (λ (n : ℕ). EntryRun c (k + 5 + n) qs two) long b.1) no_one no_two

-- behind a jump an entry that ends at or before a gate that is reached, ends below the head
in_time : (head gate end : ℕ) (c : List ℕ) (k : ℕ) → 64 ≤ k → (gate < head) ⊎ (gate ≡ 64) → end ≤ gate → k + 5 ≤ end → end < head
in_time head gate end c k high (inl below) le more = omega (arith, below, le)
in_time head gate end c k high (inr at) le more = absurd (omega (arith, at, le, more, high))

one_gate : (jump other : Option ℕ) (head at bt : ℕ) (es fs : Entries) (c : List ℕ) → IsRow jump c head at es → IsRow other c head bt fs → IsReached jump head at → IsReached other head bt → IsBadGate jump head at c → IsBadGate other head bt c → at ≡ bt
one_gate None None head at bt es fs c one two here there bad worse = meets c head at bt es fs one two (λ p entry le. bad.no_entry p entry tt) (λ p entry le. worse.no_entry p entry tt)
one_gate None (Some j) head at bt es fs c one two here there bad worse =
    let same = (run_unique c head es two.first at j one two.to_jump (λ p entry. bad.no_entry p entry tt) (at_jump c j two.jumps)).1 in
    absurd (bad.no_jump refl (subst (IsJump c) (sym same) two.jumps))
one_gate (Some j) None head at bt es fs c one two here there bad worse =
    let same = (run_unique c head one.first fs j bt one.to_jump two (at_jump c j one.jumps) (λ p entry. worse.no_entry p entry tt)).1 in
    absurd (worse.no_jump refl (subst (IsJump c) same one.jumps))
one_gate (Some j) (Some i) head at bt es fs c one two here there bad worse =
    let low_at = run_grows c 64 one.second at one.from_front in
    let low_bt = run_grows c 64 two.second bt two.from_front in
    meets c 64 at bt one.second two.second one.from_front two.from_front
    (λ p entry le. bad.no_entry p entry (in_time head bt (at + 5 + length p) c at low_at there le (omega arith)))
    (λ p entry le. worse.no_entry p entry (in_time head at (bt + 5 + length p) c bt low_bt here le (omega arith)))

first_one : (at bt : ℕ) (c : List ℕ) → IsFirstNonzero 64 at c → IsFirstNonzero 64 bt c → at ≡ bt
first_one at bt c one two = elim (cases_lt at bt) [
  | inl less ↦ absurd (one.nonzero (two.before at less one.outside))
  | inr most ↦ elim (cases_lt bt at) [
    | inl less ↦ absurd (two.nonzero (one.before bt less two.outside))
    | inr least ↦ omega (arith, most, least)
  ]
]

behind_one : (at bt : ℕ) (c : List ℕ) → IsDamagedBehind at c → IsDamagedBehind bt c → at ≡ bt
behind_one at bt c (inl short) (inl too) = short.1 ∙ sym too.1
behind_one at bt c (inl short) (inr long) = absurd (omega (arith, short.0, long.0))
behind_one at bt c (inr long) (inl short) = absurd (omega (arith, short.0, long.0))
behind_one at bt c (inr (size, inl out)) (inr (large, inl too)) = out.1 ∙ sym too.1
behind_one at bt c (inr (size, inl out)) (inr (large, inr walk)) = absurd (omega (arith, out.0, walk.0))
behind_one at bt c (inr (size, inr walk)) (inr (large, inl out)) = absurd (omega (arith, out.0, walk.0))
behind_one at bt c (inr (size, inr walk)) (inr (large, inr other)) =
    one_gate walk.1.jump other.1.jump (64 + cell_value c) at bt walk.1.entries other.1.entries c walk.1.row other.1.row walk.1.reached other.1.reached walk.1.bad other.1.bad

pub one_damage : (at bt : ℕ) (c : List ℕ) → IsRingDamagedAt at c → IsRingDamagedAt bt c → at ≡ bt
one_damage at bt c (inl one) (inl two) = first_one at bt c one two
one_damage at bt c (inl one) (inr two) = absurd (one.nonzero (two.0 at one.inside one.outside))
one_damage at bt c (inr one) (inl two) = absurd (two.nonzero (one.0 bt two.inside two.outside))
one_damage at bt c (inr one) (inr two) = behind_one at bt c one.1 two.1
