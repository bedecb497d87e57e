-- Leaves told one after another.
use Rattle.std.specs.Prelude.{◌≡◌, [], ◌∷◌}
use Rattle.sg_visit.specs.Leaves.{Leaf, Leaves}

-- from the first state each leaf leads to the next one, and the last one leads to the second state
abbrev pub Visits : {S : Type 0} → (S → Leaf → S → Type 0) → Leaves → S → S → Type 0
Visits step [] old new = new ≡ old
Visits {S = S} step (leaf ∷ leaves) old new = (next : S)
    × (step old leaf next × Visits step leaves next new)
