-- Names as the keys of tables.
use Rattle.std.specs.Prelude.{ℕ, List, map, Vec}
use Rattle.std.specs.declared.alloc.Global.{Global}

-- entries by the bytes of their keys
abbrev pub by_bytes : {X : Type 0} → List (Vec ℕ Global × X) → List (List ℕ × X)
by_bytes entries = map (λ e. (e.0.items, e.1)) entries
