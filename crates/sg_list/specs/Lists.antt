-- Words on lists.
use Rattle.std.specs.Prelude.{ℕ, Bool, false, List, [], ◌∷◌, slice_get, zero, suc}
use Rattle.std.specs.Option.{option_map_or}

-- the list with f of the item at that place; as it is where there is none
abbrev pub change : {A : Type 0} → List A → ℕ → (A → A) → List A
change [] k f = []
change (x ∷ xs) zero f = f x ∷ xs
change (x ∷ xs) (suc k) f = x ∷ change xs k f

-- there is an item at that place, and it passes
abbrev pub passes_at : {A : Type 0} → List A → ℕ → (A → Bool) → Bool
passes_at xs k p = option_map_or p (slice_get xs k) false
