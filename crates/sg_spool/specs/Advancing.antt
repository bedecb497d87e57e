-- Taking the first entries off a list.
use Rattle.std.specs.Prelude.{◌≡◌, ◌⊎◌, ℕ, ◌+◌, ◌<◌, ◌≤◌, List, [], ◌∷◌, length, take, drop, Option, Some, None}
use Rattle.sg_stable.specs.declared.cell.Pair.{Pair}
use Rattle.sg_spool.specs.Places.{IsOrdered, AreCompact, live}
use Rattle.sg_spool.specs.Ring.{Entries, IsEnd, IsRow, IsEndBelow, IsLaid, space}
use Rattle.sg_spool.specs.View.{IsRing}
use Rattle.sg_spool.specs.declared.places.Places.{Places}

-- the length of the first payload, where it is known
abbrev pub IsFirstSize : Option ℕ → Entries → Type 0
IsFirstSize None entries = Unit {0}
IsFirstSize (Some size) [] = ⊥
IsFirstSize (Some size) (payload ∷ payloads) = size ≡ length payload

-- the bytes are the ring of at least so many entries, the first of which take so many bytes
pub record HasRingEntries (cell : Pair) (places : Places) (n size : ℕ) (entries : Entries)
    (bytes : List ℕ) : Type 0 where
  pub ring : IsRing cell places entries bytes
  pub enough : n ≤ length entries
  pub sized : size ≡ space (take n entries)

-- a ring stands at these places, but for the cell's value
pub record IsRingReady (jump : Option ℕ) (head end : ℕ) (entries : Entries)
    (bytes : List ℕ) : Type 0 where
  pub size : 128 ≤ length bytes
  pub high : 64 ≤ head
  pub low : 64 ≤ end
  pub inside : head < length bytes
  pub row : IsRow jump bytes head end entries
  pub ends : IsEnd bytes end
  pub below : IsEndBelow jump head end

abbrev pub IsReadyAt : Places → Entries → List ℕ → Type 0
IsReadyAt places entries bytes = IsRingReady places.jump places.head places.end entries bytes

-- the places behind entries that take so many bytes; they are within each capacity that those were within
pub record IsSkipped (size : ℕ) (places next : Places) : Type 0 where
  pub ordered : IsOrdered next
  pub live : live next + size ≡ live places
  pub compact : (capacity : ℕ) → AreCompact capacity places.jump places.head places.end
      → AreCompact capacity next.jump next.head next.end

-- a ring of these entries, at places that are within each capacity that those were within
pub record IsShrunk (places : Places) (entries : Entries) (bytes : List ℕ) : Type 0 where
  pub next : Places
  pub laid : IsLaid next.jump next.head next.end entries bytes
  pub compact : (capacity : ℕ) → AreCompact capacity places.jump places.head places.end
      → AreCompact capacity next.jump next.head next.end

-- the ring, or the ring without its first entries
abbrev pub IsAdvanced : Places → ℕ → Entries → List ℕ → Type 0
IsAdvanced places n entries bytes = IsLaid places.jump places.head places.end entries bytes
    ⊎ IsShrunk places (drop n entries) bytes
