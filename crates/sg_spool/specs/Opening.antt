-- What an opening finds, and where a disk-buffer's bytes are damaged: at the first place that this order meets.
use Rattle.std.specs.Prelude.{◌≡◌, ◌≢◌, ◌⊎◌, ℕ, ◌+◌, ◌-◌, ◌<◌, ◌≤◌, ◌^◌, min, List, Option, Some, None, false, length, slice_index}
use Rattle.sg_device.specs.Disk.{DiskState, content, WhereTold}
use Rattle.sg_device.specs.Faults.{Rose}
use Rattle.sg_stable.specs.Cell.{cell_value, AreZero, IsFirstNonzero}
use Rattle.sg_spool.specs.Places.{IsOrdered}
use Rattle.sg_spool.specs.Ring.{Entries, IsEntry, IsJump, IsRow, IsEndBelow}
use Rattle.sg_spool.specs.View.{IsRingHeld}
use Rattle.sg_spool.specs.declared.open.OpenedRing.{OpenedRing}
use Rattle.sg_stable.specs.declared.fault.StoreRefusal.{StoreRefusal}
use Rattle.sg_stable.specs.declared.fault.StoreRefusal.TheVariants.{Damage, DiskFault, NoMemory}

-- the open cell of the ring that stands on this disk, its places and the number of its entries
pub record FindsRing (disk : DiskState) (found : OpenedRing) : Type 0 where
  pub held : WhereTold (content disk)
      (λ bytes. (entries : Entries) × IsRingHeld found.cell found.places found.count None entries
      bytes)
  pub ordered : IsOrdered found.places
  pub opened : found.cell.closed ≡ false

-- At this gate, which a walk reached, stands no end, no entry whose next gate may stand where it does, and no first jump.
pub record IsBadGate (jump : Option ℕ) (head gate : ℕ) (bytes : List ℕ) : Type 0 where
  pub inside : gate < length bytes
  pub opened : slice_index bytes gate ≢ 0
  pub no_entry : (payload : List ℕ) → IsEntry bytes gate payload
      → IsEndBelow jump head (gate + 5 + length payload) → ⊥
  pub no_jump : jump ≡ None → IsJump bytes gate → ⊥

-- a walk comes to this gate: behind a jump only to the front itself, and to gates below the head
abbrev pub IsReached : Option ℕ → ℕ → ℕ → Type 0
IsReached None head gate = Unit {0}
IsReached (Some jump) head gate = (gate < head) ⊎ (gate ≡ 64)

-- the walk from this head stops at a gate that is damaged
pub record IsDamagedWalk (head at : ℕ) (bytes : List ℕ) : Type 0 where
  pub jump : Option ℕ
  pub entries : Entries
  pub row : IsRow jump bytes head at entries
  pub reached : IsReached jump head at
  pub bad : IsBadGate jump head at bytes

-- the damage that comes after those bytes: too short a file, a head out of it, a bad gate
abbrev pub IsDamagedBehind : ℕ → List ℕ → Type 0
IsDamagedBehind at bytes = ((length bytes < 128) × (at ≡ length bytes))
    ⊎ ((128 ≤ length bytes) × (((length bytes ≤ 64 + cell_value bytes)
    × (at ≡ min (64 + cell_value bytes) (2 ^ 64 - 1)))
    ⊎ ((64 + cell_value bytes < length bytes) × IsDamagedWalk (64 + cell_value bytes) at bytes)))

abbrev pub IsRingDamagedAt : ℕ → List ℕ → Type 0
IsRingDamagedAt at bytes = IsFirstNonzero 64 at bytes
    ⊎ (AreZero 64 bytes × IsDamagedBehind at bytes)

-- damage where it is, a fault where the count of faults rose, and never lack of memory
abbrev pub HasRingReason : DiskState → DiskState → StoreRefusal → Type 0
HasRingReason old new (Damage at) = WhereTold (content old) (IsRingDamagedAt at)
HasRingReason old new DiskFault = Rose old.faults new.faults
HasRingReason old new NoMemory = ⊥

-- the same of a walk from this head
abbrev pub WalkReason : DiskState → DiskState → ℕ → StoreRefusal → Type 0
WalkReason old new head (Damage at) = WhereTold (content old) (IsDamagedWalk head at)
WalkReason old new head DiskFault = Rose old.faults new.faults
WalkReason old new head NoMemory = ⊥
