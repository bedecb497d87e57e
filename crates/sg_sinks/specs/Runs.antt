-- The first entries on a disk, as far as they are shown at a time.
use Rattle.std.specs.Prelude.{ℕ, ◌+◌, ◌-◌, nat_le, if◌then◌else◌, List, [], ◌∷◌, zero, suc}

-- at most so many, whose lengths are together at most `room`
abbrev pub run_from : ℕ → ℕ → List ℕ → ℕ
run_from zero room ns = 0
run_from (suc most) room [] = 0
run_from (suc most) room (n ∷ ns) = if nat_le n room then 1 + run_from most (room - n) ns else 0

-- at most so many, whose lengths without the first's are together at most 1,048,576
abbrev pub run_of : ℕ → List ℕ → ℕ
run_of most [] = 0
run_of most (n ∷ ns) = 1 + run_from (most - 1) 1048576 ns
