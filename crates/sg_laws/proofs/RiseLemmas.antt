-- By how much counts of faults rose.
use Rattle.std.proofs.Common.{◌≡◌, ℕ, ◌-◌, ◌^◌, ◌≤◌, ◌<◌, Bool, true, false, List, [], ◌∷◌, Some, None, refl, sym, arith, subst, suc, zero, ◌⊎◌, inl, inr}
use Rattle.std.proofs.lemmas.Bool.Decides.{nat_tests}
use Rattle.std.specs.Prelude.{nat_lt, slice_get}
use Rattle.sg_list.proofs.ListLemmas.{some-same}
use Rattle.sg_device.specs.Faults.{Rose}
use Rattle.sg_device.specs.Inlet.{InletState}
use Rattle.sg_device.specs.Outlet.{OutletState}
use Rattle.sg_laws.specs.Counts.{rise, inlet_faults, outlet_faults}

stands-by : (b : Bool) (x : ℕ) → nat_lt x (2 ^ 64 - 1) ≡ b → (x < 2 ^ 64 - 1) ⊎ (2 ^ 64 - 1 ≤ x)
stands-by true x is = inl (grind (arith, nat_tests))
stands-by false x is = inr (grind (arith, nat_tests))

-- a count is below its end or not
pub stands-or : (x : ℕ) → (x < 2 ^ 64 - 1) ⊎ (2 ^ 64 - 1 ≤ x)
stands-or x = stands-by (nat_lt x (2 ^ 64 - 1)) x refl

pub rise-below : (before now : ℕ) → now < 2 ^ 64 - 1 → rise before now ≡ now - before
rise-below before now below = let is : nat_lt now (2 ^ 64 - 1) ≡ true = grind (arith, nat_tests) in rw is refl

pub rise-above : (before now : ℕ) → 2 ^ 64 - 1 ≤ now → rise before now ≡ now
rise-above before now above = let is : nat_lt now (2 ^ 64 - 1) ≡ false = grind (arith, nat_tests) in rw is refl

rise-some : (before now : ℕ) → Rose before now → 0 < rise before now
rise-some before now rose = elim (stands-or now) [
  | inl below ↦ (let is = rise-below before now below in omega (arith, is, rose, below))
  | inr above ↦ (let is = rise-above before now above in omega (arith, is, above))
]

-- Where the count of one rose, the sum isn't zero.

pub inlet-rose : (olds news : List InletState) (i : ℕ) (old new : InletState) → slice_get olds i ≡ Some old → slice_get news i ≡ Some new → Rose old.faults new.faults → 0 < inlet_faults olds news
inlet-rose [] news i old new at_old at_new rose = absurd (let wrong : None ≡ Some old = at_old in cc)
inlet-rose (o ∷ os) [] i old new at_old at_new rose = absurd (let wrong : None ≡ Some new = at_new in cc)
inlet-rose (o ∷ os) (n ∷ ns) zero old new at_old at_new rose =
    let some : 0 < rise o.faults n.faults = subst (λ (x : InletState). 0 < rise x.faults n.faults) (sym (some-same o old at_old))
    (subst (λ (x : InletState). 0 < rise old.faults x.faults) (sym (some-same n new at_new)) (rise-some old.faults new.faults rose)) in
    omega (arith, some)
inlet-rose (o ∷ os) (n ∷ ns) (suc i) old new at_old at_new rose = let more = inlet-rose os ns i old new at_old at_new rose in omega (arith, more)

pub outlet-rose : (olds news : List OutletState) (d : ℕ) (old new : OutletState) → slice_get olds d ≡ Some old → slice_get news d ≡ Some new → Rose old.faults new.faults → 0 < outlet_faults olds news
outlet-rose [] news d old new at_old at_new rose = absurd (let wrong : None ≡ Some old = at_old in cc)
outlet-rose (o ∷ os) [] d old new at_old at_new rose = absurd (let wrong : None ≡ Some new = at_new in cc)
outlet-rose (o ∷ os) (n ∷ ns) zero old new at_old at_new rose =
    let some : 0 < rise o.faults n.faults = subst (λ (x : OutletState). 0 < rise x.faults n.faults) (sym (some-same o old at_old))
    (subst (λ (x : OutletState). 0 < rise old.faults x.faults) (sym (some-same n new at_new)) (rise-some old.faults new.faults rose)) in
    omega (arith, some)
outlet-rose (o ∷ os) (n ∷ ns) (suc d) old new at_old at_new rose = let more = outlet-rose os ns d old new at_old at_new rose in omega (arith, more)
