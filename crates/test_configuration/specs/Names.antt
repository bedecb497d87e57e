-- The texts of templates, by name.
use Rattle.std.specs.Prelude.{ℕ, if◌then◌else◌, List, [], ◌∷◌, bytes_eq, Option, Some, None}

-- the text of the first of that name
abbrev pub text_of : List (List ℕ × List ℕ) → List ℕ → Option (List ℕ)
text_of [] name = None
text_of (row ∷ rows) name = if bytes_eq row.0 name then Some row.1 else text_of rows name
