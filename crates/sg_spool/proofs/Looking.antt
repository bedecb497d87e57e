-- What the first 64 bytes show of a disk-buffer.
use Rattle.std.proofs.Common.{◌≡◌, inl, inr, ◌∙◌, sym, ap, subst, ℕ, List, ◌+◌, ◌-◌, ◌<◌, ◌≤◌, ◌^◌, length, get_or, arith, min, Option, Some, None}
use Rattle.sg_device.specs.Disk.{DiskState, content, Durable, Preserves, WhereTold}
use Rattle.sg_device.proofs.Disks.{told_before}
use Rattle.sg_stable.specs.Cell.{cell_value, HasCell, AreZero}
use Rattle.sg_stable.specs.Opening.{IsSynced}
use Rattle.sg_stable.proofs.Cells.{value_of}
use Rattle.sg_stable.specs.declared.fault.StoreRefusal.{StoreRefusal}
use Rattle.sg_stable.specs.declared.fault.StoreRefusal.TheVariants.{Damage, DiskFault, NoMemory}
use Rattle.sg_spool.specs.Ring.{Entries, IsRow, IsEnd}
use Rattle.sg_stable.specs.declared.cell.Pair.{Pair}
use Rattle.sg_spool.specs.Places.{AreGatesOrdered, bytes_between}
use Rattle.sg_spool.specs.View.{IsRingHeld}
use Rattle.sg_spool.specs.Walk.{IsWalkAt}
use Rattle.sg_spool.specs.declared.open.OpenedRing.{OpenedRing}
use Rattle.sg_spool.proofs.Rings.{has_cell_same, length_space, row_between}
use Rattle.std.specs.Prelude.{Result, Ok, Err, IfOk, IfErr, OnOk}
use Rattle.sg_spool.specs.declared.walk.GatePlace.{GatePlace}
use Rattle.sg_spool.specs.Opening.{FindsRing, IsDamagedWalk, IsRingDamagedAt, HasRingReason, WalkReason}

pub between_small : (jump : Option ℕ) (head end : ℕ) → AreGatesOrdered jump head end → bytes_between jump head end < 2 ^ 63
between_small None head end ordered = omega (arith, ordered.0, ordered.1, ordered.2)
between_small (Some jump) head end ordered = omega (arith, ordered.0, ordered.1, ordered.2, ordered.3)

number_of : (count : ℕ) (jump : Option ℕ) (b : List ℕ) (head end : ℕ) (es : Entries) → IsRow jump b head end es → AreGatesOrdered jump head end → count ≡ min (length es) (2 ^ 64 - 1) → count ≡ length es
number_of count jump b head end es row ordered is = omega (arith, is, length_space es, row_between jump b head end es row, between_small jump head end ordered)

pub held_at : (b : List ℕ) (cell : Pair) (head : ℕ) (place : GatePlace) → AreZero 64 b → 128 ≤ length b → HasCell cell.selector cell.value b → 64 + cell.value ≡ head → head < length b → AreGatesOrdered place.jump head place.gate → IsWalkAt b head place × IsEnd b place.gate → (es : Entries) × IsRingHeld cell (record { jump = place.jump; head = head; end = place.gate }) place.count None es b
held_at b cell head place zeros long has_cell is inside ordered at = (
  at.0.entries,
  record {
    ring = record {
      laid = record {
        buffer = record { size = long; zeros = zeros; at_head = ap (λ (n : ℕ). 64 + n) (value_of cell.selector cell.value b has_cell) ∙ is; inside = inside };
        row = at.0.row;
        ends = at.1;
        below = at.0.below;
      };
      has_cell = has_cell;
    };
    number = number_of place.count place.jump b head place.gate at.0.entries at.0.row ordered at.0.number;
    first = tt;
  },
)

pub head_out : (b : List ℕ) (s v at : ℕ) → AreZero 64 b → 128 ≤ length b → HasCell s v b → at ≡ min (64 + v) (2 ^ 64 - 1) → length b ≤ at → IsRingDamagedAt at b
head_out b s v at zeros long cell is out =
    let value = value_of s v b cell in
    inr (zeros, inr (long, inl (omega (arith, value, is, out), omega (arith, value, is))))

pub reason_of : (d0 d1 d2 : DiskState) (head : ℕ) (e : StoreRefusal) → ((at : ℕ) → WhereTold (content d1) (IsDamagedWalk head at) → WhereTold (content d0) (IsRingDamagedAt at)) → d0.faults ≤ d1.faults → WalkReason d1 d2 head e → HasRingReason d0 d2 e
reason_of d0 d1 d2 head (Damage at) goes le reason = goes at reason
reason_of d0 d1 d2 head DiskFault goes le reason = omega (arith, reason, le)
reason_of d0 d1 d2 head NoMemory goes le reason = reason

pub walk_bad : (b : List ℕ) (s v head at : ℕ) → AreZero 64 b → 128 ≤ length b → HasCell s v b → 64 + v ≡ head → head < length b → IsDamagedWalk head at b → IsRingDamagedAt at b
walk_bad b s v head at zeros long cell is inside bad =
    let at_head : 64 + cell_value b ≡ head = ap (λ (n : ℕ). 64 + n) (value_of s v b cell) ∙ is in
    inr (zeros, inr (long, inr (omega (arith, at_head, inside), subst (λ (h : ℕ). IsDamagedWalk h at b) (sym at_head) bad)))

-- the reason, from before a call that changed nothing
reason_before : (d0 d1 d2 : DiskState) (refusal : StoreRefusal) → Preserves d0 d1 → d0.faults ≤ d1.faults → HasRingReason d1 d2 refusal → HasRingReason d0 d2 refusal
reason_before d0 d1 d2 (Damage at) keeps later why = told_before d0 d1 (IsRingDamagedAt at) keeps why
reason_before d0 d1 d2 DiskFault keeps later why = omega (arith, later, why)
reason_before d0 d1 d2 NoMemory keeps later why = absurd why

module _ (d0 d1 d2 : DiskState) (keeps : Preserves d0 d1) where
  pub reasons_before : (r : Result OpenedRing StoreRefusal) → d0.faults ≤ d1.faults → IfErr r (HasRingReason d1 d2) → IfErr r (HasRingReason d0 d2)
  reasons_before (Ok found) later why = why
  reasons_before (Err refusal) later why = reason_before d0 d1 d2 refusal keeps later why

  pub found_before : (r : Result OpenedRing StoreRefusal) → IfOk r (FindsRing d1) → IfOk r (FindsRing d0)
  found_before (Ok f) found = record {
    held = told_before d0 d1 (λ b. (es : Entries) × IsRingHeld f.cell f.places f.count None es b) keeps found.held;
    ordered = found.ordered;
    opened = found.opened;
  }
  found_before (Err refusal) found = found

-- the cell, read from the front
pub cell_there : (b after : List ℕ) → ((k : ℕ) → k < 64 → get_or after k 0 ≡ get_or b k 0) → length after ≡ 64 → 128 ≤ length b → (cell : Pair) → HasCell cell.selector cell.value after → HasCell cell.selector cell.value b
cell_there b after same long whole cell has = has_cell_same cell.selector cell.value after b has (omega (arith, long, whole)) (λ k lt. sym (same k (omega (arith, lt))))

-- a sync, and behind it calls that changed nothing
pub synced_on : (old mid new : DiskState) (r : Result OpenedRing StoreRefusal) → Durable new → Preserves old new → mid.faults ≡ old.faults → OnOk r (new.faults ≡ mid.faults) → OnOk r (IsSynced old new)
synced_on old mid new (Ok found) durable preserves synced well = record { durable = durable; preserves = preserves; well = well ∙ synced }
synced_on old mid new (Err refusal) durable preserves synced well = tt
