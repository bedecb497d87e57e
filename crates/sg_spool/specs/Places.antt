-- The places of a ring.
use Rattle.std.specs.Prelude.{◌≡◌, ℕ, ◌+◌, ◌-◌, ◌*◌, ◌<◌, ◌≤◌, ◌^◌, max, List, [], ◌∷◌, length, Option, Some, None, nat_lt, if◌then◌else◌, ◌==◌}
use Rattle.sg_spool.specs.Ring.{Entries, IsEntry}
use Rattle.sg_spool.specs.declared.places.Places.{Places}

-- the order that they keep
abbrev pub AreGatesOrdered : Option ℕ → ℕ → ℕ → Type 0
AreGatesOrdered None head end = (64 ≤ head) × (head ≤ end) × (end < 2 ^ 63)
AreGatesOrdered (Some jump) head end =
    (64 ≤ end) × (end < head) × (head ≤ jump) × (jump + 5 < 2 ^ 63)

-- the bytes between the head and the end, over the jump
abbrev pub bytes_between : Option ℕ → ℕ → ℕ → ℕ
bytes_between None head end = end - head
bytes_between (Some jump) head end = (jump - head) + (end - 64)

abbrev pub IsOrdered : Places → Type 0
IsOrdered places = AreGatesOrdered places.jump places.head places.end

-- the bytes that the entries take, with their gates and lengths
abbrev pub live : Places → ℕ
live places = bytes_between places.jump places.head places.end

-- the gate at which a walk that comes to this place goes on
abbrev pub gate_past : Option ℕ → ℕ → ℕ
gate_past None place = place
gate_past (Some jump) place = if jump == place then 64 else place

-- from this gate on these entries are left
abbrev pub Remains : List ℕ → Option ℕ → ℕ → Entries → ℕ → Type 0
Remains bytes jump gate [] end = gate ≡ end
Remains bytes jump gate (payload ∷ payloads) end = IsEntry bytes gate payload
    × Remains bytes jump (gate_past jump (gate + 5 + length payload)) payloads end

-- a payload of n bytes is within the capacity
abbrev pub FitsRing : ℕ → Places → ℕ → Type 0
FitsRing capacity places n = live places + n + 6 ≤ capacity

-- there is room behind the end for a payload of n bytes: always in one row, else up to the head
abbrev pub HasRoom : Option ℕ → ℕ → ℕ → ℕ → Type 0
HasRoom None head end n = Unit {0}
HasRoom (Some jump) head end n = end + n + 6 ≤ head

-- no file is longer than this, where nothing else than appends and advances under this capacity came to it
abbrev pub bound : ℕ → ℕ
bound capacity = max 128 (68 + 2 * capacity)

-- the places that such a ring has: what is appended in one row ends by 64 + 2 * capacity, and a jump leaves the capacity free
abbrev pub AreCompact : ℕ → Option ℕ → ℕ → ℕ → Type 0
AreCompact capacity None head end = end < 64 + max 1 (2 * capacity)
AreCompact capacity (Some jump) head end = (64 + capacity < head)
    × (jump < 64 + max 1 (2 * capacity))

-- the same number of bytes, in one row
pub record IsInOneRow (old new : Places) : Type 0 where
  pub ordered : IsOrdered new
  pub row : new.jump ≡ None
  pub live : live new ≡ live old

-- the places once so many bytes of entries are off the front
abbrev pub skipped : Option ℕ → ℕ → ℕ → ℕ → Places
skipped None head end bytes = record { jump = None; head = head + bytes; end = end }
skipped (Some jump) head end bytes =
    if nat_lt bytes (jump - head) then record { jump = Some jump; head = head + bytes; end = end }
    else record { jump = None; head = 64 + (bytes - (jump - head)); end = end }

abbrev pub skip : Places → ℕ → Places
skip places bytes = skipped places.jump places.head places.end bytes
