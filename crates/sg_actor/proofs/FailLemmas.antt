-- Pulls that failed.
use Rattle.std.proofs.Common.{arith, ◌≡◌, ◌≤◌, ℕ, Bool, true, false, refl, sym, ◌∙◌}
use Rattle.sg_device.specs.Faults.{Rose}
use Rattle.sg_actor.specs.Steps.{PullFails}

-- none did
pub fails-same : (before now : Bool) (faults faults' : ℕ) → now ≡ before → PullFails before now faults faults'
fails-same before now faults faults' is = ((λ e. is ∙ e), (λ was e. absurd (let differ : true ≡ false = sym e ∙ (is ∙ was) in cc)))

-- one did
pub fails-now : (before : Bool) (faults faults' : ℕ) → Rose faults faults' → PullFails before true faults faults'
fails-now before faults faults' rose = ((λ e. refl), (λ was e. rose))

-- one may have, and none did before or since
pub fails-within : (before first last now : Bool) (faults faults' faults'' : ℕ) → first ≡ before → PullFails first last faults faults' → now ≡ last → faults' ≤ faults'' → PullFails before now faults faults''
fails-within before first last now faults faults' faults'' is h now-is more = (
  (λ e. now-is ∙ h.0 (is ∙ e)),
  (λ was e. (let rose : Rose faults faults' = h.1 (is ∙ was) (sym now-is ∙ e) in omega arith)),
)
