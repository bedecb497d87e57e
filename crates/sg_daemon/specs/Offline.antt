-- Which words are done without waiting.
use Rattle.std.specs.Prelude.{◌≢◌, ℕ, List, [], ◌∷◌, codes, Option, Some}
use Rattle.sg_words.specs.Words.{Asked, run, drill, asked}

abbrev pub IsNeither : Option Asked → Type 0
IsNeither (Some (run file once rounds)) = ⊥
IsNeither (Some (drill records)) = ⊥
IsNeither other = Unit {0}

-- they ask for neither a run nor a drill
abbrev pub IsOffline : List (List ℕ) → Type 0
IsOffline words = IsNeither (asked words)

-- the first word is neither `run` nor `drill`
abbrev pub BeginsOffline : List (List ℕ) → Type 0
BeginsOffline [] = Unit {0}
BeginsOffline (word ∷ words) = (word ≢ codes "run") × (word ≢ codes "drill")

-- the first word tells, whatever stands behind it
abbrev pub FirstWordsTell : Type 0
FirstWordsTell = (words : List (List ℕ)) → BeginsOffline words → IsOffline words
