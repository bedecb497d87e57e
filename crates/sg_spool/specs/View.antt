-- What contracts see of a disk-buffer.
use Rattle.std.specs.Prelude.{◌≡◌, ◌⊎◌, ℕ, ◌≤◌, List, [], ◌∷◌, ◌++◌, length, Option, Some, None, Bool, true, false}
use Rattle.sg_device.specs.Disk.{DiskState, EachNow, WhereTold, content}
use Rattle.sg_device.specs.DiskBytes.{overwritten}
use Rattle.sg_stable.specs.declared.cell.Pair.{Pair}
use Rattle.sg_spool.specs.Ring.{Entries, IsLaid, IsList}
use Rattle.sg_spool.specs.Steps.{RingAt}
use Rattle.sg_spool.specs.Staging.{OpensTo}
use Rattle.sg_spool.specs.Places.{AreCompact, bound}
use Rattle.sg_spool.specs.Rows.{AreRows, total}
use Rattle.sg_spool.specs.declared.places.Places.{Places}
use Rattle.sg_spool.specs.declared.rows.Rows.{Rows}

-- its disk, its capacity, the places and the numbers of its entries, the first payload where it was read, and whether a fault
-- closed it
pub record View (D : Type 0) : Type 0 where
  pub disk : D
  pub capacity : ℕ
  pub rows : Rows
  pub front : Option (List ℕ)
  pub closed : Bool

-- once the gate at this place is open, the bytes stand for the list and these payloads behind it
abbrev pub Awaits : ℕ → Entries → Entries → List ℕ → Type 0
Awaits end list [] bytes = Unit {0}
Awaits end list (payload ∷ payloads) bytes = IsList (list ++ payload ∷ payloads)
    (overwritten end (1 ∷ []) bytes)

-- A crash leaves this list, and these payloads are staged behind it.
pub record HoldsAt (disk : DiskState) (rows : Rows) (list staged : Entries) : Type 0 where
  pub images : EachNow disk (IsList list)
  pub number : rows.staged ≡ length staged
  pub waits : WhereTold (content disk) (Awaits rows.list.end list staged)

abbrev pub RingHolds : {D : Type 0} → (D → DiskState) → View D → Entries → Entries → Type 0
RingHolds state view list staged = HoldsAt (state view.disk) view.rows list staged

-- the bytes are no longer than the bound, and the ring's places are within the capacity
pub record IsCompactIn (capacity : ℕ) (bytes : List ℕ) : Type 0 where
  pub short : length bytes ≤ bound capacity
  pub placed : (jump : Option ℕ) (head end : ℕ) (entries : Entries)
      → IsLaid jump head end entries bytes → AreCompact capacity jump head end

-- each image is within the bound of this capacity, and so will be what is staged
pub record IsCompactAt (disk : DiskState) (capacity : ℕ) (rows : Rows) : Type 0 where
  pub list : AreCompact capacity rows.list.jump rows.list.head rows.list.end
  pub ahead : AreCompact capacity rows.ahead.jump rows.ahead.head rows.ahead.end
  pub images : EachNow disk (IsCompactIn capacity)

-- a disk-buffer whose file stays within its bound
abbrev pub IsCompact : {D : Type 0} → (D → DiskState) → View D → Type 0
IsCompact state view = IsCompactAt (state view.disk) view.capacity view.rows

-- the bytes are the ring with this cell and these places
abbrev pub IsRing : Pair → Places → Entries → List ℕ → Type 0
IsRing cell places entries bytes = RingAt cell places.jump places.head places.end entries bytes

-- the images are the ring of this list, and these payloads are staged behind it
pub record AreImagesHeld (disk : DiskState) (cell : Pair) (rows : Rows)
    (list staged : Entries) : Type 0 where
  pub rings : EachNow disk (IsRing cell rows.list list)
  pub opens : WhereTold (content disk)
      (OpensTo cell rows.list.end rows.ahead.jump rows.ahead.head rows.ahead.end list staged)
  pub waits : rows.staged ≡ length staged

-- More payloads are staged, behind the others or behind a list that has taken those.
abbrev pub AreHeldAfter : DiskState → Pair → Rows → Rows → Entries → Entries → Entries → Type 0
AreHeldAfter disk cell old new list staged more = (AreImagesHeld disk cell new list (staged ++ more)
    × (new.count ≡ old.count))
    ⊎ (AreImagesHeld disk cell new (list ++ staged) more × (new.count ≡ total old))

-- the first payload, where it was read
abbrev pub IsFrontPayload : Option (List ℕ) → Entries → Type 0
IsFrontPayload None entries = Unit {0}
IsFrontPayload (Some payload) [] = ⊥
IsFrontPayload (Some payload) (first ∷ entries) = payload ≡ first

-- the same, with the number of its entries and the first payload
pub record IsRingHeld (cell : Pair) (places : Places) (count : ℕ) (front : Option (List ℕ))
    (entries : Entries) (bytes : List ℕ) : Type 0 where
  pub ring : IsRing cell places entries bytes
  pub number : count ≡ length entries
  pub first : IsFrontPayload front entries

-- each image is the ring with one list, and the disk holds one list of what is staged
pub record IsWholeRing (disk : DiskState) (cell : Pair) (rows : Rows)
    (front : Option (List ℕ)) : Type 0 where
  pub entries : Entries
  pub staged : Entries
  pub each : EachNow disk (IsRingHeld cell rows.list rows.count front entries)
  pub opens : WhereTold (content disk)
      (OpensTo cell rows.list.end rows.ahead.jump rows.ahead.head rows.ahead.end entries staged)
  pub waits : rows.staged ≡ length staged

-- what is true of every disk-buffer: its places are in order, and until a fault closes it each image is the ring
pub record IsSoundSpool {D : Type 0} (state : D → DiskState) (cell : Pair)
    (view : View D) : Type 0 where
  pub rows : AreRows view.rows
  pub unstaged : view.closed ≡ true → view.rows.staged ≡ 0
  pub cell_open : view.closed ≡ false → cell.closed ≡ false
  pub whole : view.closed ≡ false → IsWholeRing (state view.disk) cell view.rows view.front
