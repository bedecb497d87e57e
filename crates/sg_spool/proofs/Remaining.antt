-- The entries that are left from a gate on.
use Rattle.std.proofs.Common.{◌≡◌, ℕ, ◌+◌, ◌<◌, List, [], ◌∷◌, ◌++◌, length, get_or, refl, sym, ◌∙◌, ap, subst, arith, Some, None, Option}
use Rattle.std.proofs.lemmas.Bool.Decides.{nat_tests}
use Rattle.sg_spool.specs.Places.{gate_past, Remains}
use Rattle.sg_spool.specs.Ring.{Entries, EntryRun, IsEntry, IsEnd, IsLaid}
use Rattle.sg_spool.proofs.Rings.{run_grows}

past_none : (c : List ℕ) (k : ℕ) (es : Entries) (e : ℕ) → EntryRun c k es e → Remains c None k es e
past_none c k [] e run = run
past_none c k (p ∷ ps) e run = (run.0, past_none c (k + 5 + length p) ps e run.1)

pub past_other : (j k : ℕ) → k < j → gate_past (Some j) k ≡ k
past_other j k lt = grind (arith, nat_tests)

pub past_jump : (j k : ℕ) → k ≡ j → gate_past (Some j) k ≡ 64
past_jump j k is = grind (arith, nat_tests)

-- behind the jump
past_second : (c : List ℕ) (j k : ℕ) (es : Entries) (e : ℕ) → e < j → EntryRun c k es e → Remains c (Some j) k es e
past_second c j k [] e below run = run
past_second c j k (p ∷ ps) e below run =
    let up = run_grows c (k + 5 + length p) ps e run.1 in
    (run.0, subst (λ (i : ℕ). Remains c (Some j) i ps e) (sym (past_other j (k + 5 + length p) (omega (arith, up, below)))) (past_second c j (k + 5 + length p) ps e below run.1))

-- before it
past_first : (c : List ℕ) (j k : ℕ) (es fs : Entries) (e : ℕ) → EntryRun c k es j → Remains c (Some j) 64 fs e → Remains c (Some j) (gate_past (Some j) k) (es ++ fs) e
past_first c j k [] fs e run rest = subst (λ (i : ℕ). Remains c (Some j) i fs e) (sym (past_jump j k run)) rest
past_first c j k (p ∷ ps) fs e run rest =
    let up = run_grows c (k + 5 + length p) ps j run.1 in
    subst (λ (i : ℕ). Remains c (Some j) i ((p ∷ ps) ++ fs) e) (sym (past_other j k (omega (arith, up)))) (run.0, past_first c j (k + 5 + length p) ps fs e run.1 rest)

-- all entries are left from the first gate on
pub remains_of : (jump : Option ℕ) (head end : ℕ) (es : Entries) (c : List ℕ) → IsLaid jump head end es c → Remains c jump (gate_past jump head) es end
remains_of None head end es c laid = past_none c head es end laid.row
remains_of (Some j) head end es c laid =
    let row = laid.row in
    let up = run_grows c head row.first j row.to_jump in
    let below = laid.below in
    subst (λ (l : Entries). Remains c (Some j) (gate_past (Some j) head) l end) (sym row.both) (past_first c j head row.first row.second end row.to_jump (past_second c j 64 row.second end (omega (arith, below, up)) row.from_front))

-- at the end none is left
pub none_remain : (jump : Option ℕ) (gate end : ℕ) (es : Entries) (c : List ℕ) → IsEnd c end → gate ≡ end → Remains c jump gate es end → es ≡ []
none_remain jump gate end [] c ends is remains = refl
none_remain jump gate end (p ∷ ps) c ends is remains = absurd (remains.0.opened (ap (λ (k : ℕ). get_or c k 0) is ∙ ends.shut))

-- elsewhere one is left, and its payload is what is read there
pub one_remains : (jump : Option ℕ) (gate end next : ℕ) (es : Entries) (c payload : List ℕ) → (gate ≡ end → ⊥) → ((p : List ℕ) → IsEntry c gate p → payload ≡ p) → ((p : List ℕ) → IsEntry c gate p → next ≡ gate_past jump (gate + 5 + length p)) → Remains c jump gate es end → (rest : Entries) × (es ≡ payload ∷ rest) × Remains c jump next rest end
one_remains jump gate end next [] c payload other read goes remains = absurd (other remains)
one_remains jump gate end next (p ∷ ps) c payload other read goes remains =
    let same = read p remains.0 in
    (ps, ap (λ (l : List ℕ). l ∷ ps) (sym same), subst (λ (k : ℕ). Remains c jump k ps end) (sym (goes p remains.0)) remains.1)

-- and the next gate is the one behind it
pub one_behind : (jump : Option ℕ) (gate end next : ℕ) (es : Entries) (c payload : List ℕ) → (gate ≡ end → ⊥) → ((p : List ℕ) → IsEntry c gate p → payload ≡ p) → ((p : List ℕ) → IsEntry c gate p → next ≡ gate_past jump (gate + 5 + length p)) → Remains c jump gate es end → next ≡ gate_past jump (gate + 5 + length payload)
one_behind jump gate end next [] c payload other read goes remains = absurd (other remains)
one_behind jump gate end next (p ∷ ps) c payload other read goes remains =
    goes p remains.0 ∙ ap (λ (l : List ℕ). gate_past jump (gate + 5 + length l)) (sym (read p remains.0))
