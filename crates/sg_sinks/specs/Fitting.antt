-- What entries take of a disk-buffer.
use Rattle.std.specs.Prelude.{ℕ, ◌+◌, nat_le, Bool, List, [], ◌∷◌}

-- entries of these lengths take 5 bytes and their length each
abbrev pub space : List ℕ → ℕ
space [] = 0
space (n ∷ ns) = 5 + n + space ns

-- an entry of n bytes fits where so many are taken: with its gate, its length and a closed gate it is within the capacity
abbrev pub has_space : ℕ → ℕ → ℕ → Bool
has_space capacity used n = nat_le (used + (5 + n + 1)) capacity
