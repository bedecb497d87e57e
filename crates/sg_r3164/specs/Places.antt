-- Parts of an item by their places.
use Rattle.std.specs.Prelude.{◌≤◌, ℕ, List, length, slice_range, Option, option_map}
use Rattle.std.specs.Option.{ForSome}

-- the part of the item, where there is one
abbrev pub part_at : List ℕ → Option (ℕ × ℕ) → Option (List ℕ)
part_at item range = option_map (λ range. slice_range item range.0 range.1) range

-- the item has that part
abbrev pub IsPart : List ℕ → Option (ℕ × ℕ) → Type 0
IsPart item range = ForSome range (λ range. (range.0 ≤ range.1) × (range.1 ≤ length item))
