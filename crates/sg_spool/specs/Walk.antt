-- What a walk along the gates meets.
use Rattle.std.specs.Prelude.{◌≡◌, ◌≢◌, ℕ, ◌+◌, ◌-◌, ◌<◌, ◌≤◌, ◌^◌, min, List, length, slice_index, Option, Some, None}
use Rattle.sg_spool.specs.Ring.{size_at, Entries, IsEntry, IsEnd, IsJump, IsRow, IsEndBelow}
use Rattle.sg_spool.specs.Opening.{IsReached, IsDamagedWalk}
use Rattle.sg_spool.specs.declared.walk.Gate.{Gate}
use Rattle.sg_spool.specs.declared.walk.Gate.TheVariants.{Shut, Entry, Jump, Broken}
use Rattle.sg_spool.specs.declared.walk.GatePlace.{GatePlace}
use Rattle.sg_spool.specs.declared.walk.GateStep.{GateStep}
use Rattle.sg_spool.specs.declared.walk.GateStep.TheVariants.{On, End, Damaged}

-- an open gate with a whole entry of this size behind it, and the next gate in the file
pub record HasEntrySize (bytes : List ℕ) (gate size : ℕ) : Type 0 where
  pub opened : slice_index bytes gate ≢ 0
  pub told : size_at (gate + 1) bytes ≡ size
  pub some : 1 ≤ size
  pub limit : size ≤ 2 ^ 30 + 64
  pub next : gate + 5 + size < length bytes

-- what stands at a gate
abbrev pub IsGate : List ℕ → ℕ → Gate → Type 0
IsGate bytes gate Shut = IsEnd bytes gate
IsGate bytes gate (Entry size) = HasEntrySize bytes gate size
IsGate bytes gate Jump = IsJump bytes gate
IsGate bytes gate Broken = (slice_index bytes gate ≢ 0)
    × ((payload : List ℕ) → IsEntry bytes gate payload → ⊥) × (IsJump bytes gate → ⊥)

-- an entry's next gate, and what stands behind a jump's, is in a file of this length
abbrev pub FitsIn : ℕ → ℕ → Gate → Type 0
FitsIn len gate Shut = Unit {0}
FitsIn len gate (Entry size) = gate + 5 + size < len
FitsIn len gate Jump = gate + 5 ≤ len
FitsIn len gate Broken = Unit {0}

-- how far a walk may go on
abbrev pub ahead : ℕ → Option ℕ → ℕ → ℕ
ahead len None gate = len + 1 + (len - gate)
ahead len (Some jump) gate = len - gate

-- the place's gate is in the file, and in order behind the head
abbrev pub IsAmongPlaces : ℕ → ℕ → Option ℕ → ℕ → Type 0
IsAmongPlaces len head None gate = (head ≤ gate) × (gate < len)
IsAmongPlaces len head (Some jump) gate = (64 ≤ gate) × (gate < head) × (head ≤ jump)
    × (jump + 5 ≤ len)

abbrev pub IsGateAmong : ℕ → ℕ → GatePlace → Type 0
IsGateAmong len head place = IsAmongPlaces len head place.jump place.gate

-- the walk is at this place, behind these entries
pub record IsWalkAt (bytes : List ℕ) (head : ℕ) (place : GatePlace) : Type 0 where
  pub entries : Entries
  pub row : IsRow place.jump bytes head place.gate entries
  pub below : IsEndBelow place.jump head place.gate
  pub reached : IsReached place.jump head place.gate
  pub number : place.count ≡ min (length entries) (2 ^ 64 - 1)

-- where a step leads, from a place where the bytes have this gate
abbrev pub StepLeads : List ℕ → ℕ → GatePlace → GateStep → Type 0
StepLeads bytes head place (On next) = IsWalkAt bytes head next
StepLeads bytes head place End = IsEnd bytes place.gate
StepLeads bytes head place (Damaged at) = IsDamagedWalk head at bytes

-- a step goes on within the file
abbrev pub WalkGoesOn : ℕ → ℕ → GatePlace → GateStep → Type 0
WalkGoesOn len head place (On next) = IsGateAmong len head next
    × (ahead len next.jump next.gate < ahead len place.jump place.gate)
WalkGoesOn len head place End = Unit {0}
WalkGoesOn len head place (Damaged at) = Unit {0}
