-- Entries written anew behind all that the list uses.
use Rattle.std.specs.Prelude.{◌≡◌, ◌≢◌, ℕ, ◌+◌, ◌≤◌, List, [], ◌∷◌, length, take, slice_index, map, Option, Some, None, Bool, true, false}
use Rattle.sg_device.specs.DiskBytes.{part}
use Rattle.sg_device.specs.Disk.{DiskState, IsImage, EachNow}
use Rattle.sg_stable.specs.declared.cell.Pair.{Pair}
use Rattle.sg_spool.specs.Copying.{Beyond}
use Rattle.sg_spool.specs.Ring.{Entries, IsPayload, IsEnd, IsLaid, size_at, block_of}
use Rattle.sg_spool.specs.Steps.{Stems}
use Rattle.sg_spool.specs.View.{IsRing}
use Rattle.sg_spool.specs.declared.places.Places.{Places}

-- the place behind all that the list uses
abbrev pub past_end : Option ℕ → ℕ → ℕ
past_end None end = end + 1
past_end (Some jump) end = jump + 5

abbrev pub past : Places → ℕ
past places = past_end places.jump places.end

-- an entry's bytes, without the closed gate behind it unless it is the last
abbrev pub written_of : Bool → List ℕ → List ℕ
written_of true payload = 1 ∷ block_of payload
written_of false payload = take (length payload + 5) (1 ∷ block_of payload)

-- an open gate at this place, and the payload behind it whole
pub record HasPayload (bytes : List ℕ) (gate : ℕ) (payload : List ℕ) : Type 0 where
  pub opened : slice_index bytes gate ≢ 0
  pub size : size_at (gate + 1) bytes ≡ length payload
  pub fits : IsPayload payload
  pub there : part (gate + 5) (length payload) bytes ≡ payload
  pub whole : gate + 5 + length payload ≤ length bytes

-- these entries stand one behind another, from the first gate on; the next would be at the end
abbrev pub Stand : List ℕ → ℕ → Entries → ℕ → Type 0
Stand bytes gate [] end = gate ≡ end
Stand bytes gate (payload ∷ payloads) end = HasPayload bytes gate payload
    × Stand bytes (gate + 5 + length payload) payloads end

-- behind the last one a gate is closed
abbrev pub IsShutAt : Bool → List ℕ → ℕ → Type 0
IsShutAt true bytes gate = IsEnd bytes gate
IsShutAt false bytes gate = Unit {0}

-- an entry more at this place, and behind the last one a closed gate
pub record AddsSpelled (at : ℕ) (payload : List ℕ) (last : Bool) (old new : List ℕ) : Type 0 where
  pub beyond : Beyond at old new
  pub added : at ≤ length old
      → HasPayload new at payload × IsShutAt last new (at + 5 + length payload)

-- the entries of the list, spelled anew behind all that it uses
pub record SpellsRing (meaning : List ℕ → List ℕ) (places : Places) (count end : ℕ)
    (old new : List ℕ) : Type 0 where
  pub beyond : Beyond (past places) old new
  pub spelled : (entries : Entries) → IsLaid places.jump places.head places.end entries old
      → count ≡ length entries → Stand new (past places) (map meaning entries) end × IsEnd new end

-- the ring is as before, and so is its cell
pub record KeepsRing (old new : DiskState) (was is : Pair) (places : Places) : Type 0 where
  pub ring : (entries : Entries) → EachNow old (IsRing was places entries)
      → EachNow new (Stems (IsImage old) (IsRing was places entries))
  pub cell : is ≡ was
