-- Bytes stand for one list.
use Rattle.std.proofs.Common.{◌≡◌, ℕ, ◌+◌, List, [], ◌∷◌, ◌++◌, length, get_or, refl, sym, ◌∙◌, ap, subst, arith, Some, None, Option}
use Rattle.sg_device.specs.DiskBytes.{part}
use Rattle.sg_spool.specs.Ring.{Entries, IsEntry, EntryRun, IsEnd, IsJump, IsRow, IsLaid, IsList}

-- no entry stands here
abbrev pub NoEntry : List ℕ → ℕ → Type 0
NoEntry c gate = (p : List ℕ) → IsEntry c gate p → ⊥

pub at_end : (c : List ℕ) (gate : ℕ) → IsEnd c gate → NoEntry c gate
at_end c gate ends p entry = entry.opened ends.shut

pub at_jump : (c : List ℕ) (gate : ℕ) → IsJump c gate → NoEntry c gate
at_jump c gate jump p entry = let none : 0 ≡ length p = sym jump.jumps ∙ entry.size in omega (arith, none, entry.fits.some)

pub run_unique : (c : List ℕ) (k : ℕ) (ps qs : Entries) (e f : ℕ) → EntryRun c k ps e → EntryRun c k qs f → NoEntry c e → NoEntry c f → (ps ≡ qs) × (e ≡ f)
run_unique c k [] [] e f one two stop_e stop_f = (refl, sym one ∙ two)
run_unique c k [] (q ∷ qs) e f one two stop_e stop_f = absurd (stop_e q (subst (λ (j : ℕ). IsEntry c j q) one two.0))
run_unique c k (p ∷ ps) [] e f one two stop_e stop_f = absurd (stop_f p (subst (λ (j : ℕ). IsEntry c j p) two one.0))
run_unique c k (p ∷ ps) (q ∷ qs) e f one two stop_e stop_f =
    let long : length p ≡ length q = sym one.0.size ∙ two.0.size in
    let same : p ≡ q = sym one.0.there ∙ ap (λ (n : ℕ). part (k + 5) n c) long ∙ two.0.there in
    let rest = run_unique c (k + 5 + length p) ps qs e f one.1 (subst (λ (n : ℕ). EntryRun c (k + 5 + n) qs f) (sym long) two.1) stop_e stop_f in
    (λ i. same i ∷ rest.0 i, rest.1)

pub row_unique : (j i : Option ℕ) (c : List ℕ) (h e f : ℕ) (es fs : Entries) → IsRow j c h e es → IsRow i c h f fs → IsEnd c e → IsEnd c f → es ≡ fs
row_unique None None c h e f es fs one two end_e end_f = (run_unique c h es fs e f one two (at_end c e end_e) (at_end c f end_f)).0
row_unique None (Some i) c h e f es fs one two end_e end_f =
    let same = (run_unique c h es two.first e i one two.to_jump (at_end c e end_e) (at_jump c i two.jumps)).1 in
    absurd (two.jumps.opened (ap (λ (k : ℕ). get_or c k 0) (sym same) ∙ end_e.shut))
row_unique (Some j) None c h e f es fs one two end_e end_f =
    let same = (run_unique c h one.first fs j f one.to_jump two (at_jump c j one.jumps) (at_end c f end_f)).1 in
    absurd (one.jumps.opened (ap (λ (k : ℕ). get_or c k 0) same ∙ end_f.shut))
row_unique (Some j) (Some i) c h e f es fs one two end_e end_f =
    let front = (run_unique c h one.first two.first j i one.to_jump two.to_jump (at_jump c j one.jumps) (at_jump c i two.jumps)).0 in
    let back = (run_unique c 64 one.second two.second e f one.from_front two.from_front (at_end c e end_e) (at_end c f end_f)).0 in
    one.both ∙ (λ k. front k ++ back k) ∙ sym two.both

pub laid_unique : (j i : Option ℕ) (g h e f : ℕ) (es fs : Entries) (c : List ℕ) → IsLaid j g e es c → IsLaid i h f fs c → es ≡ fs
laid_unique j i g h e f es fs c one two =
    let heads : h ≡ g = sym two.buffer.at_head ∙ one.buffer.at_head in
    row_unique j i c g e f es fs one.row (subst (λ (k : ℕ). IsRow i c k f fs) heads two.row) one.ends two.ends

pub list_unique : (es fs : Entries) (c : List ℕ) → IsList es c → IsList fs c → es ≡ fs
list_unique es fs c one two = laid_unique one.jump two.jump one.head two.head one.end two.end es fs c one.laid two.laid

-- and at one place each
row_places : (j i : Option ℕ) (c : List ℕ) (h e f : ℕ) (es fs : Entries) → IsRow j c h e es → IsRow i c h f fs → IsEnd c e → IsEnd c f → (j ≡ i) × (e ≡ f)
row_places None None c h e f es fs one two end_e end_f = (refl, (run_unique c h es fs e f one two (at_end c e end_e) (at_end c f end_f)).1)
row_places None (Some i) c h e f es fs one two end_e end_f =
    let same = (run_unique c h es two.first e i one two.to_jump (at_end c e end_e) (at_jump c i two.jumps)).1 in
    absurd (two.jumps.opened (ap (λ (k : ℕ). get_or c k 0) (sym same) ∙ end_e.shut))
row_places (Some j) None c h e f es fs one two end_e end_f =
    let same = (run_unique c h one.first fs j f one.to_jump two (at_jump c j one.jumps) (at_end c f end_f)).1 in
    absurd (one.jumps.opened (ap (λ (k : ℕ). get_or c k 0) same ∙ end_f.shut))
row_places (Some j) (Some i) c h e f es fs one two end_e end_f = (
  ap (λ (k : ℕ). Some k) (run_unique c h one.first two.first j i one.to_jump two.to_jump (at_jump c j one.jumps) (at_jump c i two.jumps)).1,
  (run_unique c 64 one.second two.second e f one.from_front two.from_front (at_end c e end_e) (at_end c f end_f)).1,
)

pub laid_places : (j i : Option ℕ) (g h e f : ℕ) (es fs : Entries) (c : List ℕ) → IsLaid j g e es c → IsLaid i h f fs c → (j ≡ i) × (g ≡ h) × (e ≡ f)
laid_places j i g h e f es fs c one two =
    let heads : h ≡ g = sym two.buffer.at_head ∙ one.buffer.at_head in
    let rest = row_places j i c g e f es fs one.row (subst (λ (k : ℕ). IsRow i c k f fs) heads two.row) one.ends two.ends in
    (rest.0, sym heads, rest.1)
