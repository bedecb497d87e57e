-- What the bytes of a disk-buffer stand for: a list of entries in a ring.
--
-- The first 64 bytes hold a two-slot cell and zeros outside it; 64 and the cell's value are the place of the head. From the
-- head on stand gates, one behind another. A gate of 0 ends the list. Behind any other gate stands a length, four bytes, the
-- highest first: 1 to 2 ^ 30 + 64 is that of an entry's payload, which follows, and then the next gate; 0 is a jump to the
-- gate at 64. There is at most one jump, and behind it the list ends below the head.
use Rattle.std.specs.Prelude.{◌≡◌, ◌≢◌, ℕ, ◌+◌, ◌-◌, ◌<◌, ◌≤◌, ◌^◌, List, [], ◌∷◌, ◌++◌, length, slice_index, Option, Some, None}
use Rattle.std.specs.Int.{from_be_bytes, to_be_bytes, w32}
use Rattle.sg_device.specs.DiskBytes.{part}
use Rattle.sg_stable.specs.Cell.{cell_value, IsOutside}

-- the big-endian number of four bytes at this place
unfoldable pub size_at : ℕ → List ℕ → ℕ
size_at at bytes = from_be_bytes w32 (part at 4 bytes)

-- a list of payloads
abbrev pub Entries : Type 0
Entries = List (List ℕ)

-- the bytes that entries take, with their gates and lengths
abbrev pub space : Entries → ℕ
space [] = 0
space (payload ∷ payloads) = 5 + length payload + space payloads

-- a payload has 1 to 2 ^ 30 + 64 bytes
pub record IsPayload (payload : List ℕ) : Type 0 where
  pub some : 1 ≤ length payload
  pub limit : length payload ≤ 2 ^ 30 + 64

-- an open gate at this place, the payload behind it whole, and the next gate in the file
pub record IsEntry (bytes : List ℕ) (gate : ℕ) (payload : List ℕ) : Type 0 where
  pub opened : slice_index bytes gate ≢ 0
  pub size : size_at (gate + 1) bytes ≡ length payload
  pub fits : IsPayload payload
  pub there : part (gate + 5) (length payload) bytes ≡ payload
  pub next : gate + 5 + length payload < length bytes

-- these entries stand one behind another, from the first gate up to the last
abbrev pub EntryRun : List ℕ → ℕ → Entries → ℕ → Type 0
EntryRun bytes gate [] end = gate ≡ end
EntryRun bytes gate (payload ∷ payloads) end = IsEntry bytes gate payload
    × EntryRun bytes (gate + 5 + length payload) payloads end

-- a gate that ends the list
pub record IsEnd (bytes : List ℕ) (gate : ℕ) : Type 0 where
  pub inside : gate < length bytes
  pub shut : slice_index bytes gate ≡ 0

-- a whole jump to the front of the ring
pub record IsJump (bytes : List ℕ) (gate : ℕ) : Type 0 where
  pub whole : gate + 5 ≤ length bytes
  pub opened : slice_index bytes gate ≢ 0
  pub jumps : size_at (gate + 1) bytes ≡ 0

-- a file with a head in it, and zeros outside its cell
pub record IsBufferFile (bytes : List ℕ) (head : ℕ) : Type 0 where
  pub size : 128 ≤ length bytes
  pub zeros : (k : ℕ) → k < 64 → IsOutside k → slice_index bytes k ≡ 0
  pub at_head : 64 + cell_value bytes ≡ head
  pub inside : head < length bytes

-- the entries before the jump, and those behind it
pub record IsWrapped (bytes : List ℕ) (head jump end : ℕ) (entries : Entries) : Type 0 where
  pub first : Entries
  pub second : Entries
  pub both : entries ≡ first ++ second
  pub to_jump : EntryRun bytes head first jump
  pub jumps : IsJump bytes jump
  pub from_front : EntryRun bytes 64 second end

-- the entries' places: in one row, or over a jump
abbrev pub IsRow : Option ℕ → List ℕ → ℕ → ℕ → Entries → Type 0
IsRow None bytes head end entries = EntryRun bytes head entries end
IsRow (Some jump) bytes head end entries = IsWrapped bytes head jump end entries

-- behind a jump the list ends below the head
abbrev pub IsEndBelow : Option ℕ → ℕ → ℕ → Type 0
IsEndBelow None head end = Unit {0}
IsEndBelow (Some jump) head end = end < head

-- the ring with this jump, head and end
pub record IsLaid (jump : Option ℕ) (head end : ℕ) (entries : Entries)
    (bytes : List ℕ) : Type 0 where
  pub buffer : IsBufferFile bytes head
  pub row : IsRow jump bytes head end entries
  pub ends : IsEnd bytes end
  pub below : IsEndBelow jump head end

-- the list that the bytes stand for
pub record IsList (entries : Entries) (bytes : List ℕ) : Type 0 where
  pub jump : Option ℕ
  pub head : ℕ
  pub end : ℕ
  pub laid : IsLaid jump head end entries bytes

-- a payload's length, the payload, and a closed gate
unfoldable pub block_of : List ℕ → List ℕ
block_of payload = to_be_bytes w32 (length payload) ++ payload ++ 0 ∷ []

-- the payload of such a block with an open gate before it
abbrev pub payload_of : List ℕ → List ℕ
payload_of bytes = part 5 (length bytes - 6) bytes
