-- The moments of pulls.
use Rattle.std.specs.Prelude.{pos, ℤ, ◌≤ℤ◌, List, ◌∷◌, []}
use Rattle.sg_device.specs.Inlet.{Stamped}

-- a moment of a pull
abbrev pub IsTimely : ℤ → Type 0
IsTimely at = (pos 0 ≤ℤ at) × (at ≤ℤ pos 250000000000000000)

abbrev pub AreTimely : List Stamped → Type 0
AreTimely [] = Unit {0}
AreTimely (b ∷ bytes) = IsTimely b.1 × AreTimely bytes
