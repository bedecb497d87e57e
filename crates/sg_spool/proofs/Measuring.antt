-- What the first entries take, read from gate to gate.
use Rattle.std.proofs.Common.{◌≡◌, ◌⊎◌, ℕ, zero, suc, ◌+◌, ◌<◌, ◌≤◌, List, [], ◌∷◌, length, take, drop, sym, ◌∙◌, ap, subst, arith, Some, None, Option}
use Rattle.sg_spool.specs.Advancing.{IsFirstSize}
use Rattle.sg_spool.specs.Places.{gate_past, Remains}
use Rattle.sg_spool.specs.Ring.{Entries, IsEntry, space}
use Rattle.sg_spool.proofs.Advancing.{drop_split, known_size}

-- one entry more
take_more : (k : ℕ) (es : Entries) (p : List ℕ) (ps : Entries) → drop k es ≡ p ∷ ps → space (take (suc k) es) ≡ space (take k es) + (5 + length p)
take_more zero [] p ps is = absurd (let e : [] ≡ (p ∷ ps) = is in cc)
take_more (suc k) [] p ps is = absurd (let e : [] ≡ (p ∷ ps) = is in cc)
take_more zero (e ∷ es) p ps is = let same : length e ≡ length p = let both : (e ∷ es) ≡ (p ∷ ps) = is in ap length (let first : e ≡ p = cc in first) in omega (arith, same)
take_more (suc k) (e ∷ es) p ps is = omega (arith, take_more k es p ps is)

take_less : (k : ℕ) (es : Entries) → space (take k es) ≤ space es
take_less zero es = omega arith
take_less (suc k) [] = omega arith
take_less (suc k) (e ∷ es) = omega (arith, take_less k es)

-- The gate behind so many entries, and what these take.
pub record IsBehindGate (b : List ℕ) (jump : Option ℕ) (end k gate size : ℕ) (known : Option ℕ) (es : Entries) : Type 0 where
  pub remains : Remains b jump gate (drop k es) end
  pub sized : size ≡ space (take k es)
  pub first : IsFirstSize known (drop k es)

pub behind_more : (b : List ℕ) (jump : Option ℕ) (end k gate size len next past most : ℕ) (known : Option ℕ) (es : Entries) → k < length es → space es ≤ most → IsBehindGate b jump end k gate size known es
    → ((p : List ℕ) → (known ≡ None) ⊎ (known ≡ Some (length p)) → IsEntry b gate p → len ≡ length p)
    → (gate + 5 + len < length b → next ≡ gate_past jump (gate + 5 + len)) → (size + 5 + len ≤ most → past ≡ size + 5 + len) → IsBehindGate b jump end (suc k) next past None es
behind_more b jump end k gate size len next past most known es lt all at reads goes adds =
    let split = drop_split k es lt in
    let p = split.0 in
    let ps = split.1 in
    let here = subst (λ (l : Entries). Remains b jump gate l end) split.2 at.remains in
    let is : len ≡ length p = reads p (known_size known p ps (subst (λ (l : Entries). IsFirstSize known l) split.2 at.first)) here.0 in
    let inside = here.0.next in
    let more = take_more k es p ps split.2 in
    let less = take_less (suc k) es in
    let sized = at.sized in
    record {
      remains = subst (λ (l : Entries). Remains b jump next l end) (sym split.3) (subst (λ (m : ℕ). Remains b jump m ps end) (ap (λ (m : ℕ). gate_past jump (gate + 5 + m)) (sym is) ∙ sym (goes (omega (arith, inside, is)))) here.1);
      sized = adds (omega (arith, is, more, less, sized, all)) ∙ omega (arith, is, more, sized);
      first = tt;
    }
