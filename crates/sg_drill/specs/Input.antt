-- The input of a drill.
use Rattle.std.specs.Prelude.{ℕ, zero, suc, ◌*◌, ◌%◌, List, [], ◌++◌, codes}
use Rattle.std.specs.Fmt.{decimal}

-- the line of the record of that number
abbrev pub record_line : ℕ → List ℕ
record_line k =
    codes "<" ++ (decimal (7 * k % 192)
    ++ (codes ">Feb  5 17:32:18 host"
    ++ (decimal (k % 8) ++ (codes " prog"
    ++ (decimal (k % 5) ++ (codes ": record " ++ (decimal k ++ codes "\n")))))))

-- those of the first records
abbrev pub drill_text : ℕ → List ℕ
drill_text zero = []
drill_text (suc n) = drill_text n ++ record_line n
