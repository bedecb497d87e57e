-- Sums over views, and numbers that are counted once.
use Rattle.std.proofs.Common.{◌≡◌, ◌≢◌, ℕ, zero, suc, ◌+◌, ◌≤◌, ◌<◌, if◌then◌else◌, List, [], ◌∷◌, ◌++◌, length, set, sym, refl, ap, ◌∙◌, arith, eq-eqb, ne_eqb, append_assoc, ◌⊎◌, inl, inr}
use Rattle.std.proofs.lemmas.Bool.{cases_lt}
use mathlib.Core.Option.{some, some-injective, some-ne-none}
use mathlib.Core.Logic.{dite}
use native.Mathlib.Decide.{ℕ_discrete}
use lib.ListN.{get_elem?}
use Rattle.sg_booth.specs.Lists.{total, times, joined_up, CountsOnce, Rises, AllRise, StartsWith}

module _ {A : Type 0} where
  pub total_set : (f : A → ℕ) (vs : List A) (j : ℕ) (v w : A) → get_elem? vs j ≡ some v → total f (set vs j w) + f v ≡ total f vs + f w
  total_set f [] j v w e = absurd (some-ne-none v (sym e))
  total_set f (x ∷ xs) zero v w e = let p = ap f (some-injective x v e) in omega arith
  total_set f (x ∷ xs) (suc j) v w e = let p = total_set f xs j v w e in omega arith

  pub total_same : (f : A → ℕ) (vs : List A) (j : ℕ) (v w : A) → get_elem? vs j ≡ some v → f w ≡ f v → total f (set vs j w) ≡ total f vs
  total_same f vs j v w e same = let p = total_set f vs j v w e in omega arith

  pub total_append : (f : A → ℕ) (vs ws : List A) → total f (vs ++ ws) ≡ total f vs + total f ws
  total_append f [] ws = omega arith
  total_append f (x ∷ xs) ws = let p = total_append f xs ws in omega arith

  pub total_at : (f : A → ℕ) (vs : List A) (j : ℕ) (v : A) → get_elem? vs j ≡ some v → f v ≤ total f vs
  total_at f [] j v e = absurd (some-ne-none v (sym e))
  total_at f (x ∷ xs) zero v e = let p = ap f (some-injective x v e) in omega arith
  total_at f (x ∷ xs) (suc j) v e = let p = total_at f xs j v e in omega arith

  pub total_two : (f : A → ℕ) (vs : List A) (j k : ℕ) (v w : A) → j ≢ k → get_elem? vs j ≡ some v → get_elem? vs k ≡ some w → f v + f w ≤ total f vs
  total_two f [] j k v w n e e' = absurd (some-ne-none v (sym e))
  total_two f (x ∷ xs) zero zero v w n e e' = absurd (n refl)
  total_two f (x ∷ xs) zero (suc k) v w n e e' = let p = ap f (some-injective x v e) in let q = total_at f xs k w e' in omega arith
  total_two f (x ∷ xs) (suc j) zero v w n e e' = let p = ap f (some-injective x w e') in let q = total_at f xs j v e in omega arith
  total_two f (x ∷ xs) (suc j) (suc k) v w n e e' = let p = total_two f xs j k v w (λ h. n (ap suc h)) e e' in omega arith

  pub total_find : (f : A → ℕ) (vs : List A) → 0 < total f vs → (j : ℕ) × (v : A) × (get_elem? vs j ≡ some v) × (0 < f v)
  total_find f [] h = absurd (omega arith)
  total_find f (x ∷ xs) h = dite (ℕ_discrete (f x) 0) (λ none. let p = total_find f xs (omega arith) in (suc p.0, p.1, p.2, p.3)) (λ some_here. (0, x, refl, omega arith))

  pub total_none : (f g : A → ℕ) (vs : List A) → ((u : A) → g u ≡ 0 → f u ≡ 0) → total g vs ≡ 0 → total f vs ≡ 0
  total_none f g [] h e = refl
  total_none f g (x ∷ xs) h e = let p = h x (omega arith) in let q = total_none f g xs h (omega arith) in omega arith

  -- where g of one view is all of it, f of that view is all of it too
  pub total_else : (f g : A → ℕ) (vs : List A) (j : ℕ) (v : A) → get_elem? vs j ≡ some v → ((u : A) → g u ≡ 0 → f u ≡ 0) → total g vs ≡ g v → total f vs ≡ f v
  total_else f g [] j v e h all = absurd (some-ne-none v (sym e))
  total_else f g (x ∷ xs) zero v e h all = let p = ap f (some-injective x v e) in let p' = ap g (some-injective x v e) in let q = total_none f g xs h (omega arith) in omega arith
  total_else f g (x ∷ xs) (suc j) v e h all = let p = total_at g xs j v e in let q = h x (omega arith) in let r = total_else f g xs j v e h (omega arith) in omega arith

pub times-append : (x : ℕ) (ys zs : List ℕ) → times x (ys ++ zs) ≡ times x ys + times x zs
times-append x [] zs = omega arith
times-append x (y ∷ ys) zs = let p = times-append x ys zs in omega arith

pub times-one : (x t : ℕ) → x ≡ t → times x (t ∷ []) ≡ 1
times-one x t e = ap (λ b. (if b then 1 else 0) + 0) (eq-eqb x t e)

pub times-other : (x t : ℕ) → x ≢ t → times x (t ∷ []) ≡ 0
times-other x t n = ap (λ b. (if b then 1 else 0) + 0) (ne_eqb x t n)

pub times-none : (x : ℕ) (ys : List ℕ) → length ys ≡ 0 → times x ys ≡ 0
times-none x [] e = refl
times-none x (y ∷ ys) e = absurd (omega arith)

pub joined_up-append : {A : Type 0} (xss yss : List (List A)) → joined_up (xss ++ yss) ≡ joined_up xss ++ joined_up yss
joined_up-append [] yss = refl
joined_up-append (xs ∷ xss) yss = ap (λ zs. xs ++ zs) (joined_up-append xss yss) ∙ sym (append_assoc xs (joined_up xss) (joined_up yss))

pub counts_same : (low high : ℕ) (f g : ℕ → ℕ) → CountsOnce low high f → ((x : ℕ) → g x ≡ f x) → CountsOnce low high g
counts_same low high f g c same x = let p = c x in let e = same x in ((λ h. e ∙ p.0 h), (λ h h'. e ∙ p.1 h h'), (λ h. e ∙ p.2 h))

-- one number more at the end
pub counts_more : (low high : ℕ) (f g : ℕ → ℕ) → CountsOnce low high f → low ≤ high → ((x : ℕ) → g x ≡ f x + times x (high ∷ [])) → CountsOnce low (high + 1) g
counts_more low high f g c le more x = let p = c x in let e = more x in dite (ℕ_discrete x high)
    (λ is. let t = times-one x high is in let q = p.2 (omega arith) in ((λ h. absurd (omega arith)), (λ h h'. omega arith), (λ h. absurd (omega arith))))
    (λ other. let t = times-other x high other in ((λ h. let q = p.0 h in omega arith), (λ h h'. let q = p.1 h (omega arith) in omega arith), (λ h. let q = p.2 (omega arith) in omega arith)))

-- the first number is gone
pub counts_less : (low high : ℕ) (f g : ℕ → ℕ) → CountsOnce low high f → low < high → ((x : ℕ) → g x + times x (low ∷ []) ≡ f x) → CountsOnce (low + 1) high g
counts_less low high f g c lt less x = let p = c x in let e = less x in dite (ℕ_discrete x low)
    (λ is. let t = times-one x low is in let q = p.1 (omega arith) (omega arith) in ((λ h. omega arith), (λ h h'. absurd (omega arith)), (λ h. absurd (omega arith))))
    (λ other. let t = times-other x low other in ((λ h. let q = p.0 (omega arith) in omega arith), (λ h h'. let q = p.1 (omega arith) h' in omega arith), (λ h. let q = p.2 h in omega arith)))

-- a part of what is counted once
pub counts_some : (low high top x n m : ℕ) → (x < low → n ≡ 0) × (low ≤ x → x < high → n ≡ 1) × (high ≤ x → n ≡ 0) → m ≤ n → top ≡ high → (m ≤ 1) × (top ≤ x → m ≡ 0)
counts_some low high top x n m p le is = (counts_most low high x n m p le (cases_lt x low) (cases_lt x high), λ past. let none = p.2 (omega (arith, past, is)) in omega (arith, none, le))
  where
    counts_most : (low high x n m : ℕ) → (x < low → n ≡ 0) × (low ≤ x → x < high → n ≡ 1) × (high ≤ x → n ≡ 0) → m ≤ n → (x < low) ⊎ (low ≤ x) → (x < high) ⊎ (high ≤ x) → m ≤ 1
    counts_most low high x n m p le (inl below) b = let q = p.0 below in omega (arith, q, le)
    counts_most low high x n m p le (inr from) (inl inside) = let q = p.1 from inside in omega (arith, q, le)
    counts_most low high x n m p le (inr from) (inr past) = let q = p.2 past in omega (arith, q, le)

pub starts_more : {A : Type 0} (whole start : List A) (x : A) → StartsWith whole start → StartsWith (whole ++ x ∷ []) start
starts_more whole start x s = (s.0 ++ x ∷ [], ap (λ w. w ++ x ∷ []) s.1 ∙ append_assoc start s.0 (x ∷ []))

pub rises_to : (low : ℕ) (xs : List ℕ) (high high' : ℕ) → Rises low xs high → high ≤ high' → Rises low xs high'
rises_to low [] high high' r le = omega arith
rises_to low (x ∷ xs) high high' r le = (r.0, rises_to (x + 1) xs high high' r.1 le)

pub rises_more : (low : ℕ) (xs : List ℕ) (p : ℕ) → Rises low xs p → Rises low (xs ++ p ∷ []) (p + 1)
rises_more low [] p r = (r, omega arith)
rises_more low (x ∷ xs) p r = (r.0, rises_more (x + 1) xs p r.1)

pub all_rise_to : (xss : List (List ℕ)) (high high' : ℕ) → AllRise xss high → high ≤ high' → AllRise xss high'
all_rise_to [] high high' r le = tt
all_rise_to (xs ∷ xss) high high' r le = (rises_to 0 xs high high' r.0 le, all_rise_to xss high high' r.1 le)

pub all_rise-append : (xss yss : List (List ℕ)) (high : ℕ) → AllRise xss high → AllRise yss high → AllRise (xss ++ yss) high
all_rise-append [] yss high a b = b
all_rise-append (xs ∷ xss) yss high a b = (a.0, all_rise-append xss yss high a.1 b)
