-- Where reading of a real file begins.
use Rattle.std.specs.Prelude.{◌≡◌, ◌<◌, ◌^◌, ℕ, ◌⊎◌}

-- at the place that was asked for, which is below 2 ^ 63, or at 0
abbrev pub StartsAt : ℕ → ℕ → Type 0
StartsAt from place = ((place ≡ from) × (from < 2 ^ 63)) ⊎ (place ≡ 0)
