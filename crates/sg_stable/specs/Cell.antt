-- What the bytes of a cell stand for: a selector and two slots.
use Rattle.std.specs.Prelude.{◌≡◌, ◌≢◌, ◌⊎◌, ℕ, ◌%◌, ◌<◌, ◌≤◌, List, length, slice_index, if◌then◌else◌, ◌==◌}
use Rattle.std.specs.Int.{from_be_bytes, w64}
use Rattle.sg_device.specs.DiskBytes.{part}

-- the big-endian number of eight bytes at this place
unfoldable pub word : ℕ → List ℕ → ℕ
word at bytes = from_be_bytes w64 (part at 8 bytes)

-- the place of the slot that a selector selects: an even one A, an odd one B
abbrev pub slot : ℕ → ℕ
slot selector = if selector % 2 == 0 then 16 else 32

-- the value of the cell
abbrev pub cell_value : List ℕ → ℕ
cell_value bytes = word (slot (slice_index bytes 0)) bytes

-- a byte that is no part of the cell
abbrev pub IsOutside : ℕ → Type 0
IsOutside k = ((1 ≤ k) × (k < 16)) ⊎ (((24 ≤ k) × (k < 32)) ⊎ (40 ≤ k))

-- the bytes before this place that are no part of the cell are zero
abbrev pub AreZero : ℕ → List ℕ → Type 0
AreZero size bytes = (k : ℕ) → k < size → IsOutside k → slice_index bytes k ≡ 0

-- the first byte before this place that should be zero and isn't
pub record IsFirstNonzero (size at : ℕ) (bytes : List ℕ) : Type 0 where
  pub inside : at < size
  pub outside : IsOutside at
  pub nonzero : slice_index bytes at ≢ 0
  pub before : (k : ℕ) → k < at → IsOutside k → slice_index bytes k ≡ 0

-- the bytes hold a whole cell with this selector and value
pub record HasCell (selector value : ℕ) (bytes : List ℕ) : Type 0 where
  pub size : 40 ≤ length bytes
  pub selects : slice_index bytes 0 ≡ selector
  pub holds : word (slot selector) bytes ≡ value

-- the same length, and the same bytes outside the cell
pub record SameOutside (old new : List ℕ) : Type 0 where
  pub size : length new ≡ length old
  pub rest : (k : ℕ) → IsOutside k → slice_index new k ≡ slice_index old k

-- one of these images, with the cell's value or another in its cell
pub record PutsValue (from : List ℕ → Type 0) (old new : ℕ) (bytes : List ℕ) : Type 0 where
  pub before : List ℕ
  pub was : from before
  pub outside : SameOutside before bytes
  pub value : (cell_value bytes ≡ old) ⊎ (cell_value bytes ≡ new)
