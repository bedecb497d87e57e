-- Records that are brought to the core.
use Rattle.std.proofs.Common.{arith, zero, suc, ◌≡◌, ◌<◌, ◌+◌, ◌-◌, ℕ, List, [], ◌∷◌, length, refl, ap, ◌∙◌}
use Rattle.std.specs.Prelude.{slice_get, Some}
use Rattle.sg_machine.specs.declared.event.Admission.{Admission}
use Rattle.sg_actor.specs.Bringing.{last_end}
use Rattle.sg_actor.specs.declared.reader.Reader.{Reader}

-- the end of the last one
last-get : (n end : ℕ) (as' : List Admission) (a : Admission) → n + 1 ≡ length as' → slice_get as' n ≡ Some a → a.end ≡ last_end end as'
last-get n end [] a count is = absurd (omega arith)
last-get zero end (b ∷ []) a count is = ap (λ x. x.end) (let same : a ≡ b = cc in same)
last-get (suc n) end (b ∷ []) a count is = absurd (omega arith)
last-get zero end (b ∷ c ∷ as') a count is = absurd (omega arith)
last-get (suc n) end (b ∷ c ∷ as') a count is = last-get n b.end (c ∷ as') a (omega arith) is

pub last-at : (n end : ℕ) (as' : List Admission) (a : Admission) → 0 < length as' → n ≡ length as' → slice_get as' (n - 1) ≡ Some a → a.end ≡ last_end end as'
last-at n end as' a some count is = last-get (n - 1) end as' a (omega arith) is

pub last-some : (end end' : ℕ) (as' : List Admission) → 0 < length as' → last_end end as' ≡ last_end end' as'
last-some end end' [] some = absurd (omega arith)
last-some end end' (a ∷ as') some = refl

pub admitted : (old : Reader) (held : List Admission) (end : ℕ) → held ≡ [] → end ≡ last_end old.end old.held
    → (record old { held = held; end = end }) ≡ record old { held = []; end = last_end old.end old.held }
admitted old held end none is = ap (λ h. record old { held = h; end = end }) none ∙ ap (λ e. record old { held = []; end = e }) is
