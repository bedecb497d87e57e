-- The lines on a device that isn't opened, and on a store that isn't read.
use Rattle.std.specs.Prelude.{ℕ, List, ◌++◌, codes}
use Rattle.std.specs.Fmt.{decimal}

-- a device of this kind
abbrev pub unopened_line : List ℕ → ℕ → List ℕ
unopened_line kind number = codes "cannot open "
    ++ (kind ++ (codes " " ++ (decimal number ++ codes "\n")))

abbrev pub damaged_line : (store at : ℕ) → List ℕ
damaged_line store at = codes "store "
    ++ (decimal store ++ (codes " damaged at " ++ (decimal at ++ codes "\n")))

abbrev pub failed_line : ℕ → List ℕ
failed_line store = codes "store " ++ (decimal store ++ codes " failed\n")
