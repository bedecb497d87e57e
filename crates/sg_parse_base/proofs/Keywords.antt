-- Keywords of different lengths differ.
use Rattle.std.proofs.Common.{◌≡◌, ℕ, suc, Bool, true, false, List, [], ◌∷◌, length, refl, ap}
use Rattle.std.specs.Prelude.{◌&&◌, ◌==◌}
use Rattle.sg_parse_base.specs.Tokens.{same_keyword, dashed}

and_none : (b : Bool) → (b && false) ≡ false
and_none true = refl
and_none false = refl

pub lengths_differ : (text word : List ℕ) → (length text ≡ length word → ⊥) → same_keyword text word ≡ false
lengths_differ [] [] h = absurd (h refl)
lengths_differ [] (c ∷ word) h = refl
lengths_differ (b ∷ text) [] h = refl
lengths_differ (b ∷ text) (c ∷ word) h = rw (lengths_differ text word (λ e. h (ap suc e))) (and_none (dashed b == c))
