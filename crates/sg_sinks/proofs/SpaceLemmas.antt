-- What entries take, with one more.
use Rattle.std.proofs.Common.{◌≡◌, ℕ, ◌+◌, List, [], ◌∷◌, ◌++◌, arith}
use Rattle.sg_sinks.specs.Fitting.{space}

pub space_push : (ns : List ℕ) (n : ℕ) → space (ns ++ n ∷ []) ≡ space ns + (5 + n)
space_push [] n = omega arith
space_push (m ∷ ns) n = let i = space_push ns n in omega arith
