-- What the first 128 bytes show of a store.
use Rattle.std.proofs.Common.{◌≡◌, ◌∙◌, sym, ℕ, List, ◌<◌, ◌≤◌, length, get_or, arith}
use Rattle.std.specs.Prelude.{Result, Ok, Err, IfOk, IfErr, OnOk}
use Rattle.sg_device.specs.Disk.{DiskState, Durable, Preserves}
use Rattle.sg_device.proofs.Disks.{told_before}
use Rattle.sg_stable.specs.declared.cell.Pair.{Pair}
use Rattle.sg_stable.specs.declared.fault.StoreRefusal.{StoreRefusal}
use Rattle.sg_stable.specs.declared.fault.StoreRefusal.TheVariants.{Damage, DiskFault, NoMemory}
use Rattle.sg_stable.specs.Refusal.{HasPositionReason}
use Rattle.sg_stable.specs.Cell.{HasCell, AreZero, IsFirstNonzero}
use Rattle.sg_stable.specs.Opening.{FindsCell, IsSynced}
use Rattle.sg_stable.specs.Position.{IsPosition, IsPositionDamagedAt}
use Rattle.sg_stable.proofs.Cells.{value_of}

-- a buffer that holds the first bytes
module _ (size : ℕ) (b after : List ℕ) (same : (k : ℕ) → k < size → get_or after k 0 ≡ get_or b k 0) where
  pub nonzero_there : (at : ℕ) → IsFirstNonzero size at after → IsFirstNonzero size at b
  nonzero_there at first = record {
    inside = first.inside;
    outside = first.outside;
    nonzero = λ zero. first.nonzero (same at first.inside ∙ zero);
    before = λ k lt out. sym (same k (omega (arith, lt, first.inside))) ∙ first.before k lt out;
  }

  pub zeros_there : AreZero size after → AreZero size b
  zeros_there zeros k lt out = sym (same k lt) ∙ zeros k lt out

module _ (b after : List ℕ) (same : (k : ℕ) → k < 128 → get_or after k 0 ≡ get_or b k 0) where
  pub position_there : (s v n : ℕ) → AreZero 128 after → n ≡ length b → n ≡ 128 → HasCell s v b → IsPosition v b
  position_there s v n zeros long is cell = record {
    shape = record { size = omega arith; zeros = zeros_there 128 b after same zeros };
    holds = value_of s v b cell;
  }

-- the reason, from before a call that changed nothing
reason_before : (d0 d1 d2 : DiskState) (refusal : StoreRefusal) → Preserves d0 d1 → d0.faults ≤ d1.faults → HasPositionReason d1 d2 refusal → HasPositionReason d0 d2 refusal
reason_before d0 d1 d2 (Damage at) keeps later why = told_before d0 d1 (IsPositionDamagedAt at) keeps why
reason_before d0 d1 d2 DiskFault keeps later why = omega (arith, later, why)
reason_before d0 d1 d2 NoMemory keeps later why = absurd why

module _ (d0 d1 d2 : DiskState) (keeps : Preserves d0 d1) where
  pub reasons_before : (r : Result Pair StoreRefusal) → d0.faults ≤ d1.faults → IfErr r (HasPositionReason d1 d2) → IfErr r (HasPositionReason d0 d2)
  reasons_before (Ok cell) later why = why
  reasons_before (Err refusal) later why = reason_before d0 d1 d2 refusal keeps later why

  pub found_before : (r : Result Pair StoreRefusal) → IfOk r (FindsCell d1) → IfOk r (FindsCell d0)
  found_before (Ok cell) found = record {
    position = told_before d0 d1 (IsPosition cell.value) keeps found.position;
    has_cell = told_before d0 d1 (HasCell cell.selector cell.value) keeps found.has_cell;
    opened = found.opened;
  }
  found_before (Err refusal) found = found

-- a sync, and behind it calls that changed nothing
pub synced_on : (old mid new : DiskState) (r : Result Pair StoreRefusal) → Durable new → Preserves old new → mid.faults ≡ old.faults → OnOk r (new.faults ≡ mid.faults) → OnOk r (IsSynced old new)
synced_on old mid new (Ok cell) durable preserves synced well = record { durable = durable; preserves = preserves; well = well ∙ synced }
synced_on old mid new (Err refusal) durable preserves synced well = tt
