-- Sums over the inlets and the outlets of a run.
use Rattle.std.proofs.Common.{◌≡◌, ℕ, ◌+◌, ◌-◌, ◌*◌, ◌≤◌, ◌<◌, List, [], ◌∷◌, ◌++◌, length, Bool, true, false, refl, ap, ◌∙◌, arith, suc, zero, inl, inr, Some}
use Rattle.std.specs.Prelude.{◌==◌, slice_get}
use Rattle.std.proofs.lemmas.Bool.{cases_eq, ne_eqb}
use Rattle.sg_device.specs.Inlet.{InletState}
use Rattle.sg_device.specs.Outlet.{OutletState}
use Rattle.sg_machine.specs.declared.event.Admission.{Admission}
use Rattle.sg_machine.specs.declared.state.Dest.{Dest}
use Rattle.sg_counter.specs.Exchanges.{Exchange, Caller, OfSource, OfDest, caller_of, same_caller, calls_by}
use Rattle.sg_actor.specs.Bringing.{admitted_by, admitted_in}
use Rattle.sg_turns.specs.Serving.{sum_below}
use Rattle.sg_laws.specs.Counts.{rise, offers_of, bytes_in, parts_in, idles_in, inlet_faults, outlet_faults, laters_in}
use Rattle.sg_laws.proofs.OwedLemmas.{size, kept_in}
use Rattle.sg_laws.proofs.CallLemmas.{num}

-- the first apart
sum-front : (n : ℕ) (f : ℕ → ℕ) → sum_below (suc n) f ≡ f 0 + sum_below n (λ i. f (suc i))
sum-front zero f = omega arith
sum-front (suc n) f = let h = sum-front n f in omega (arith, h)

sum-add : (n : ℕ) (f g h : ℕ → ℕ) → ((i : ℕ) → f i ≡ g i + h i) → sum_below n f ≡ sum_below n g + sum_below n h
sum-add zero f g h e = refl
sum-add (suc n) f g h e = let k = sum-add n f g h e in let one = e n in omega (arith, k, one)

sum-zero : (n : ℕ) (f : ℕ → ℕ) → ((i : ℕ) → i < n → f i ≡ 0) → sum_below n f ≡ 0
sum-zero zero f e = refl
sum-zero (suc n) f e = let k = sum-zero n f (λ i l. e i (omega (arith, l))) in let one = e n (omega arith) in omega (arith, k, one)

-- Offers, by whose they are.

num-none : (b : Bool) → b ≡ false → (x : ℕ) → num b x ≡ 0
num-none b h x = ap (λ c. num c x) h

num-most : (b : Bool) (x : ℕ) → num b x ≤ x
num-most true x = omega arith
num-most false x = omega arith

-- one of them at most is this one
pick : (n j x : ℕ) → sum_below n (λ i. num (i == j) x) ≤ x
pick zero j x = omega arith
pick (suc n) j x = elim (cases_eq n j) [
  | inl e ↦ (
      let none = sum-zero n (λ i. num (i == j) x) (λ i l. num-none (i == j) (ne_eqb i j (λ q. omega (arith, q, l, e))) x) in
      let most = num-most (n == j) x in
      omega (arith, none, most))
  | inr ne ↦ (
      let none = num-none (n == j) (ne_eqb n j ne) x in
      let rest = pick n j x in
      omega (arith, none, rest))
]

pick-caller : (n : ℕ) (c : Caller) (x : ℕ) → sum_below n (λ i. num (same_caller (OfSource i) c) x) ≤ x
pick-caller n (OfSource j) x = pick n j x
pick-caller n (OfDest d) x =
    let none : sum_below n (λ i. num (same_caller (OfSource i) (OfDest d)) x) ≡ 0 = sum-zero n (λ i. num (same_caller (OfSource i) (OfDest d)) x) (λ i l. refl) in
    omega (arith, none)

offers-both : (xs ys : List Admission) → offers_of (xs ++ ys) ≡ offers_of xs + offers_of ys
offers-both [] ys = omega arith
offers-both (x ∷ xs) ys = let h = offers-both xs ys in omega (arith, h)

-- the offers of an inlet's own calls
abbrev pub own_offers : List Exchange → ℕ → ℕ
own_offers made i = offers_of (admitted_in (calls_by (OfSource i) made))

own-step-by : (i : ℕ) (e : Exchange) (rest : List Exchange) (own : Bool) → same_caller (OfSource i) (caller_of e.call) ≡ own
    → own_offers (e ∷ rest) i ≡ num own (offers_of (admitted_by e.call e.reply)) + own_offers rest i
own-step-by i e rest true is =
    let kept : calls_by (OfSource i) (e ∷ rest) ≡ e ∷ calls_by (OfSource i) rest = rw is refl in
    ap (λ es. offers_of (admitted_in es)) kept ∙ offers-both (admitted_by e.call e.reply) (admitted_in (calls_by (OfSource i) rest))
own-step-by i e rest false is =
    let out : calls_by (OfSource i) (e ∷ rest) ≡ calls_by (OfSource i) rest = rw is refl in
    let same = ap (λ es. offers_of (admitted_in es)) out in
    omega (arith, same)

-- they are offers of all calls
pub own-offers-sum : (n : ℕ) (made : List Exchange) → sum_below n (own_offers made) ≤ offers_of (admitted_in made)
own-offers-sum n [] =
    let none : sum_below n (own_offers []) ≡ 0 = sum-zero n (own_offers []) (λ i l. refl) in
    omega (arith, none)
own-offers-sum n (e ∷ rest) =
    let x = offers_of (admitted_by e.call e.reply) in
    let both = sum-add n (own_offers (e ∷ rest)) (λ i. num (same_caller (OfSource i) (caller_of e.call)) x) (own_offers rest) (λ i. own-step-by i e rest (same_caller (OfSource i) (caller_of e.call)) refl) in
    let one = pick-caller n (caller_of e.call) x in
    let more = own-offers-sum n rest in
    let all = offers-both (admitted_by e.call e.reply) (admitted_in rest) in
    omega (arith, both, one, more, all)

-- Inlets.

-- what one is paid for
abbrev pub inlet_pays : InletState → InletState → ℕ
inlet_pays old new = 4 * new.bytes + 2 * new.parts + 3 + rise old.faults new.faults + new.idles

pub inlets-sum : (olds news : List InletState) (f h : ℕ → ℕ) → length news ≡ length olds
    → ((i : ℕ) (old new : InletState) → slice_get olds i ≡ Some old → slice_get news i ≡ Some new → f i ≤ inlet_pays old new + h i)
    → sum_below (length olds) f ≤ 4 * bytes_in news + 2 * parts_in news + 3 * length olds + inlet_faults olds news + idles_in news + sum_below (length olds) h
inlets-sum [] news f h many each = omega arith
inlets-sum (old ∷ olds) [] f h many each = absurd (let wrong : ⊥ = omega (arith, many) in wrong)
inlets-sum (old ∷ olds) (new ∷ news) f h many each =
    let one = each 0 old new refl refl in
    let rest = inlets-sum olds news (λ i. f (suc i)) (λ i. h (suc i)) (omega (arith, many)) (λ i a b x y. each (suc i) a b x y) in
    let front = sum-front (length olds) f in
    let paid = sum-front (length olds) h in
    omega (arith, one, rest, front, paid)

-- Outlets.

abbrev pub outlet_pays : OutletState → OutletState → ℕ
outlet_pays old new = 2 * rise old.faults new.faults + (new.laters - old.laters)

pub outlets-sum : (olds news : List OutletState) (xs : List Dest) (f : ℕ → ℕ) → length news ≡ length olds → length xs ≡ length olds
    → ((d : ℕ) (old new : OutletState) (x : Dest) → slice_get olds d ≡ Some old → slice_get news d ≡ Some new → slice_get xs d ≡ Some x → f d ≤ size x + outlet_pays old new)
    → sum_below (length olds) f ≤ kept_in xs + 2 * outlet_faults olds news + laters_in olds news
outlets-sum [] news xs f many all each = omega arith
outlets-sum (old ∷ olds) [] xs f many all each = absurd (let wrong : ⊥ = omega (arith, many) in wrong)
outlets-sum (old ∷ olds) (new ∷ news) [] f many all each = absurd (let wrong : ⊥ = omega (arith, all) in wrong)
outlets-sum (old ∷ olds) (new ∷ news) (x ∷ xs) f many all each =
    let one = each 0 old new x refl refl refl in
    let rest = outlets-sum olds news xs (λ i. f (suc i)) (omega (arith, many)) (omega (arith, all)) (λ d a b y p q r. each (suc d) a b y p q r) in
    let front = sum-front (length olds) f in
    omega (arith, one, rest, front)
