-- Writing behind all that a ring uses.
use Rattle.std.specs.Prelude.{◌≡◌, ℕ, ◌+◌, ◌<◌, ◌≤◌, List, length, slice_index}

-- the bytes before this place stay
pub record Beyond (at : ℕ) (old new : List ℕ) : Type 0 where
  pub longer : length old ≤ length new
  pub same : (k : ℕ) → k < at → k < length old → slice_index new k ≡ slice_index old k

-- The bytes before the place stay, and there stand copies of those at another; where all of these were in the file, and the
-- place was no further than its end.
pub record Copies (source at size : ℕ) (old new : List ℕ) : Type 0 where
  pub beyond : Beyond at old new
  pub copied : source + size ≤ length old → at ≤ length old → (at + size ≤ length new)
      × ((k : ℕ) → k < size → slice_index new (at + k) ≡ slice_index old (source + k))
