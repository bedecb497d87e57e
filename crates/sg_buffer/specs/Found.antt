-- What an opening finds in a disk-buffer.
use Rattle.std.specs.Prelude.{◌≡◌, ◌^◌, ◌-◌, ◌++◌, ◌+◌, ◌||◌, ℕ, min, List, [], ◌∷◌, length, map, false}
use Rattle.sg_device.specs.Disk.{DiskState, WhereTold, content}
use Rattle.sg_device.specs.Faults.{Rose}
use Rattle.sg_msg.specs.Length.{encoded_len}
use Rattle.sg_codec.specs.declared.kept.Kept.{Kept}
use Rattle.sg_stable.specs.declared.fault.StoreRefusal.{StoreRefusal}
use Rattle.sg_stable.specs.declared.fault.StoreRefusal.TheVariants.{Damage, DiskFault, NoMemory}
use Rattle.sg_spool.specs.Places.{live, Remains}
use Rattle.sg_spool.specs.Ring.{Entries, IsList}
use Rattle.sg_spool.specs.declared.places.Places.{Places}
use Rattle.sg_spool.specs.declared.rows.Rows.{Rows}
use Rattle.sg_buffer.specs.Entries.{IsStoredAs, AreStoredAs, AreKept, spelled, size_of}
use Rattle.sg_buffer.specs.declared.found.BufferEntries.{BufferEntries}
use Rattle.sg_buffer.specs.Formats.{is_format1}
use Rattle.sg_buffer.specs.Heads.{head_of}

-- These entries were found. Over a disk that tells its bytes they are those of the list; where none is of format 1, each is
-- spelled in format 2.
pub record FindsEntries (disk : DiskState) (rows : Rows) (found : BufferEntries)
    (entries : List Kept) : Type 0 where
  pub heads : found.heads.items ≡ map head_of entries
  pub kept : AreKept entries
  pub count : rows.count ≡ length entries
  pub size : found.size ≡ min (size_of entries) (2 ^ 64 - 1)
  pub list : WhereTold (content disk)
      (λ bytes. (payloads : Entries) → IsList payloads bytes → AreStoredAs entries payloads)
  pub live : found.older ≡ false → live rows.list ≡ size_of entries
  pub newer : found.older ≡ false → WhereTold (content disk)
      (λ bytes. (payloads : Entries) → IsList payloads bytes → payloads ≡ spelled entries)

-- At this gate stands the first payload of the list that is no entry.
pub record IsFirstNoEntry (places : Places) (at : ℕ) (bytes : List ℕ) : Type 0 where
  pub before : List Kept
  pub payloads : Entries
  pub payload : List ℕ
  pub after : Entries
  pub list : IsList (payloads ++ payload ∷ after) bytes
  pub stored : AreStoredAs before payloads
  pub gate : Remains bytes places.jump at (payload ∷ after) places.end
  pub none : (kept : Kept) → IsStoredAs kept payload → ⊥

-- what was found, and the entry of this payload
pub record AddsEntry (kept : Kept) (payload : List ℕ) (old new : BufferEntries) : Type 0 where
  pub heads : new.heads.items ≡ old.heads.items ++ head_of kept ∷ []
  pub older : new.older ≡ (old.older || is_format1 payload)
  pub size : new.size
      ≡ min (min (old.size + 5) (2 ^ 64 - 1) + encoded_len kept.message) (2 ^ 64 - 1)

-- damage at this gate, where the payload is no entry; lack of memory is free
abbrev pub AddReason : List ℕ → ℕ → StoreRefusal → Type 0
AddReason payload gate (Damage at) = (at ≡ gate) × ((kept : Kept) → IsStoredAs kept payload → ⊥)
AddReason payload gate DiskFault = ⊥
AddReason payload gate NoMemory = Unit {0}

-- damage where it is, a fault where the count of faults rose; lack of memory is free
abbrev pub LookReason : DiskState → DiskState → Places → StoreRefusal → Type 0
LookReason old new places (Damage at) = WhereTold (content old) (IsFirstNoEntry places at)
LookReason old new places DiskFault = Rose old.faults new.faults
LookReason old new places NoMemory = Unit {0}
