-- The tags of a message as it keeps them.
use Rattle.std.specs.Prelude.{ℕ, List, [], Option, None, Some}
use Rattle.std.specs.Arc.{arc_value}
use Rattle.std.specs.declared.sync.Arc.{Arc}

-- a shared list, or none
abbrev pub listed : {Z : Type 0} → Option (Arc (List (List ℕ)) Z) → List (List ℕ)
listed None = []
listed (Some list) = arc_value list
