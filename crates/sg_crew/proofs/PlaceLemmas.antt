-- Which calls of a history stand at the places of a list.
use Rattle.std.proofs.Common.{arith, ◌≡◌, ◌≤◌, ◌<◌, ◌+◌, ℕ, suc, Bool, true, false, List, [], ◌∷◌, ◌++◌, length, map, refl, ap, sym, ◌∙◌, subst, slice_get, Some, None, Option, inl, inr}
use Rattle.std.proofs.lemmas.Bool.{cases_eq, eq-eqb, ne_eqb, cond-true, cond-false}
use Rattle.std.specs.Prelude.{filter, if◌then◌else◌}
use Rattle.std.specs.Option.{option_to_list}
use Rattle.sg_booth.specs.Lists.{times, joined_up, Rises, AllRise, entries_at}
use Rattle.sg_booth.proofs.Sums.{times-append}
use Rattle.sg_booth.proofs.Calls.{rises-le}

-- Places in a list.

times-head : (p : ℕ) (ps : List ℕ) (x : ℕ) → x ≡ p → times x (p ∷ ps) ≡ 1 + times x ps
times-head p ps x e = ap (λ b. (if b then 1 else 0) + times x ps) (eq-eqb x p e)

times-tail : (p : ℕ) (ps : List ℕ) (x : ℕ) → (x ≡ p → ⊥) → times x (p ∷ ps) ≡ times x ps
times-tail p ps x n = let e : times x (p ∷ ps) ≡ 0 + times x ps = ap (λ b. (if b then 1 else 0) + times x ps) (ne_eqb x p n) in omega (arith, e)

-- no place lies outside
pub times-low : (low : ℕ) (ps : List ℕ) (high x : ℕ) → Rises low ps high → x < low → times x ps ≡ 0
times-low low [] high x r h = refl
times-low low (p ∷ ps) high x r h =
    let b = r.0 in
    times-tail p ps x (λ e. omega (arith, b, h, e)) ∙ times-low (p + 1) ps high x r.1 (omega (arith, b, h))

pub times-high : (low : ℕ) (ps : List ℕ) (high x : ℕ) → Rises low ps high → high ≤ x → times x ps ≡ 0
times-high low [] high x r h = refl
times-high low (p ∷ ps) high x r h =
    let a = rises-le (p + 1) ps high r.1 in
    times-tail p ps x (λ e. omega (arith, a, h, e)) ∙ times-high (p + 1) ps high x r.1 h

pub all-high : (xss : List (List ℕ)) (high x : ℕ) → AllRise xss high → high ≤ x → times x (joined_up xss) ≡ 0
all-high [] high x r h = refl
all-high (xs ∷ xss) high x r h =
    let a = times-append x xs (joined_up xss) in
    let b = times-high 0 xs high x r.0 h in
    let c = all-high xss high x r.1 h in
    omega (arith, a, b, c)

pub all-low : (xss : List (List ℕ)) (low high x : ℕ) → ((j : ℕ) (own : List ℕ) → slice_get xss j ≡ Some own → Rises low own high) → x < low → times x (joined_up xss) ≡ 0
all-low [] low high x r h = refl
all-low (xs ∷ xss) low high x r h =
    let a = times-append x xs (joined_up xss) in
    let b = times-low low xs high x (r 0 xs refl) h in
    let c = all-low xss low high x (λ j own e. r (suc j) own e) h in
    omega (arith, a, b, c)

-- a place of joined lists stands in one of them
pub find-list : (xss : List (List ℕ)) (x : ℕ) → 0 < times x (joined_up xss) → (j : ℕ) × ((own : List ℕ) × ((slice_get xss j ≡ Some own) × (0 < times x own)))
find-list [] x h = absurd (omega (arith, h))
find-list (xs ∷ xss) x h = elim (cases_eq (times x xs) 0) [
  | inl none ↦ (
      let a = times-append x xs (joined_up xss) in
      let rest = find-list xss x (omega (arith, a, none, h)) in
      (suc rest.0, (rest.1.0, (rest.1.1.0, rest.1.1.1))))
  | inr some ↦ (0, (xs, (refl, omega (arith, some))))
]

-- each of these items
abbrev pub EachPlace : {X : Type 0} → (X → Type 0) → List X → Type 0
EachPlace P [] = Unit {0}
EachPlace P (x ∷ xs) = P x × EachPlace P xs

-- The items at the places of a list are those of the part behind a place that pass a test, where the places are those of them.
module _ {E X : Type 0} (g : E → X) where
  each-tail : (P : X → Type 0) (o : Option E) (rest : List E) → EachPlace P (map g (option_to_list o ++ rest)) → EachPlace P (map g rest)
  each-tail P (Some e) rest h = h.1
  each-tail P None rest h = h

  pub each-at : (P : X → Type 0) (whole : List E) (own : List ℕ) (p : ℕ) (e : E) → EachPlace P (map g (entries_at whole own)) → slice_get whole p ≡ Some e → 0 < times p own → P (g e)
  each-at P whole [] p e all there some = absurd (omega (arith, some))
  each-at P whole (q ∷ own) p e all there some = elim (cases_eq p q) [
    | inl is ↦ (
        let at : slice_get whole q ≡ Some e = ap (λ k. slice_get whole k) (sym is) ∙ there in
        let all' : EachPlace P (map g (option_to_list (Some e) ++ entries_at whole own)) = subst (λ o. EachPlace P (map g (option_to_list o ++ entries_at whole own))) at all in
        all'.0)
    | inr other ↦ (
        let t = times-tail q own p other in
        each-at P whole own p e (each-tail P (slice_get whole q) (entries_at whole own) all) there (omega (arith, t, some)))
  ]

  later : (whole more : List E) (low : ℕ) (e : E) → ((i : ℕ) → slice_get whole (low + i) ≡ slice_get (e ∷ more) i) → (i : ℕ) → slice_get whole ((low + 1) + i) ≡ slice_get more i
  later whole more low e same i = let k : (low + 1) + i ≡ low + suc i = omega arith in ap (λ n. slice_get whole n) k ∙ same (suc i)

  pub selects : (f : X → Bool) (whole more : List E) (low : ℕ) (own : List ℕ)
      → ((i : ℕ) → slice_get whole (low + i) ≡ slice_get more i)
      → Rises low own (low + length more)
      → ((p : ℕ) (e : E) → low ≤ p → slice_get whole p ≡ Some e → 0 < times p own → f (g e) ≡ true)
      → ((p : ℕ) (e : E) → low ≤ p → slice_get whole p ≡ Some e → times p own ≡ 0 → f (g e) ≡ false)
      → filter f (map g more) ≡ map g (entries_at whole own)
  selects f whole [] low [] same r hit miss = refl
  selects f whole [] low (p ∷ own) same r hit miss =
      let a = r.0 in
      let b = rises-le (p + 1) own (low + 0) r.1 in
      absurd (omega (arith, a, b))
  selects f whole (e ∷ more) low [] same r hit miss =
      let low-is : low + 0 ≡ low = omega arith in
      let there : slice_get whole low ≡ Some e = ap (λ k. slice_get whole k) (sym low-is) ∙ same 0 in
      let out : f (g e) ≡ false = miss low e (omega arith) there refl in
      cond-false (f (g e)) (g e ∷ filter f (map g more)) (filter f (map g more)) out
      ∙ selects f whole more (low + 1) [] (later whole more low e same) (omega (arith, r)) (λ p x above. hit p x (omega (arith, above))) (λ p x above. miss p x (omega (arith, above)))
  selects f whole (e ∷ more) low (p ∷ own) same r hit miss =
      let low-is : low + 0 ≡ low = omega arith in
      let there : slice_get whole low ≡ Some e = ap (λ k. slice_get whole k) (sym low-is) ∙ same 0 in
      let first = r.0 in
      elim (cases_eq p low) [
        | inl is ↦ (
            let t = times-head p own low (sym is) in
            let in' : f (g e) ≡ true = hit low e (omega arith) there (omega (arith, t)) in
            let here : slice_get whole p ≡ Some e = ap (λ k. slice_get whole k) is ∙ there in
            let high : low + length (e ∷ more) ≡ (low + 1) + length more = omega arith in
            let r' : Rises (low + 1) own ((low + 1) + length more) = subst (λ h. Rises (low + 1) own h) high (subst (λ k. Rises (k + 1) own (low + length (e ∷ more))) is r.1) in
            let rest = selects f whole more (low + 1) own (later whole more low e same) r'
            (λ q x above at some. hit q x (omega (arith, above)) at (let u = times-tail p own q (λ d. omega (arith, above, d, is)) in omega (arith, u, some)))
            (λ q x above at none. miss q x (omega (arith, above)) at (let u = times-tail p own q (λ d. omega (arith, above, d, is)) in omega (arith, u, none))) in
            cond-true (f (g e)) (g e ∷ filter f (map g more)) (filter f (map g more)) in'
            ∙ (ap (λ l. g e ∷ l) rest ∙ ap (λ o. map g (option_to_list o ++ entries_at whole own)) (sym here)))
        | inr other ↦ (
            let below : low < p = omega (arith, first, other) in
            let t = times-low (low + 1) (p ∷ own) (low + length (e ∷ more)) low (omega (arith, below), r.1) (omega arith) in
            let out : f (g e) ≡ false = miss low e (omega arith) there t in
            let high : low + length (e ∷ more) ≡ (low + 1) + length more = omega arith in
            cond-false (f (g e)) (g e ∷ filter f (map g more)) (filter f (map g more)) out
            ∙ selects f whole more (low + 1) (p ∷ own) (later whole more low e same) (omega (arith, below), subst (λ h. Rises (p + 1) own h) high r.1)
            (λ q x above. hit q x (omega (arith, above))) (λ q x above. miss q x (omega (arith, above))))
      ]
