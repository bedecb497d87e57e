-- What holds of the images while a call goes on.
use Rattle.std.specs.Prelude.{◌≡◌, ◌⊎◌, ℕ, ◌+◌, ◌<◌, ◌≤◌, max, List, length, slice_index, Option, Some, None}
use Rattle.sg_stable.specs.Cell.{HasCell}
use Rattle.sg_stable.specs.declared.cell.Pair.{Pair}
use Rattle.sg_spool.specs.Ring.{Entries, IsLaid, IsList}

-- the bytes are the ring with this cell and these places
pub record RingAt (cell : Pair) (jump : Option ℕ) (head end : ℕ) (entries : Entries)
    (bytes : List ℕ) : Type 0 where
  pub laid : IsLaid jump head end entries bytes
  pub has_cell : HasCell cell.selector cell.value bytes

-- an image that comes from one of these, and has P
pub record Stems (from : List ℕ → Type 0) (P : List ℕ → Type 0) (bytes : List ℕ) : Type 0 where
  pub origin : List ℕ
  pub was : from origin
  pub holds : P bytes

-- the bytes stand for what the step makes of this list
abbrev pub After : (Entries → Entries → Type 0) → Entries → List ℕ → Type 0
After step entries bytes = (after : Entries) × step entries after × IsList after bytes

-- a place that the ring with this jump, head and end uses
abbrev pub IsPlaceUsed : Option ℕ → ℕ → ℕ → ℕ → Type 0
IsPlaceUsed None head end k = (k < 64) ⊎ ((head ≤ k) × (k ≤ end))
IsPlaceUsed (Some jump) head end k = (k < 64) ⊎ ((k ≤ end) ⊎ ((head ≤ k) × (k < jump + 5)))

-- the bytes that the ring uses stay
pub record Spares (jump : Option ℕ) (head end : ℕ) (old new : List ℕ) : Type 0 where
  pub longer : length old ≤ length new
  pub same : (k : ℕ) → IsPlaceUsed jump head end k → k < length old
      → slice_index new k ≡ slice_index old k

-- no file grows past this length
abbrev pub FileGrows : ℕ → List ℕ → List ℕ → Type 0
FileGrows most old new = length new ≤ max (length old) most
