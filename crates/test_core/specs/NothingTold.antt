-- What isn't told is nothing.
use Rattle.std.proofs.Common.{◌≡◌, ℕ, List, Option, Some, None}

pub nothing_told : (bytes : List ℕ) → None ≡ Some bytes → ⊥
nothing_told bytes is = cc
