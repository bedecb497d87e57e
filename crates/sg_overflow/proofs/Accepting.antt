-- A send: held frames go out, new ones behind them, and the others are kept.
use Rattle.std.proofs.Common.{◌≡◌, ◌⊎◌, inl, inr, ◌≤◌, ℕ, ◌+◌, ◌-◌, List, length, drop, refl, sym, ◌∙◌, ap, subst, arith, Bool, true, false, Err}
use Rattle.sg_device.specs.Disk.{DiskState}
use Rattle.sg_device.specs.Faults.{Rose}
use Rattle.sg_device.specs.Outlet.{OutletState}
use Rattle.sg_spool.specs.Calls.{SpoolLasts}
use Rattle.sg_spool.specs.View.{View as Spooled}
use Rattle.sg_overflow.specs.Held.{StopCause}
use Rattle.sg_overflow.specs.Keeping.{KeepCause}
use Rattle.sg_overflow.specs.Line.{MovesLine, HasSendCauseOf}
use Rattle.sg_overflow.specs.Stops.{refusal_of}
use Rattle.sg_overflow.specs.View.{Held}
use Rattle.sg_overflow.specs.declared.step.Stop.{Stop}
use Rattle.sg_overflow.specs.declared.step.Stop.TheVariants.{Open, Outlet, Later, Store, NoMemory}
use Rattle.sg_overflow.proofs.Moving.{moves_kept}

-- a store failed now, or earlier
pub failed_since : {D : Type 0} (disk : D → DiskState) (old new : Spooled D) (closed : Bool) → closed ≡ old.closed → SpoolLasts disk old new → new.closed ≡ true
    → (old.closed ≡ true) ⊎ Rose (disk old.disk).faults (disk new.disk).faults
failed_since disk old new true is lasts now = inl (sym is)
failed_since disk old new false is lasts now =
    inr (lasts.blames (disk old.disk).faults (omega arith) (λ was. absurd (let no : false ≡ true = is ∙ was in cc)) now)

-- one that failed stays as it is
failed_still : {D : Type 0} (disk : D → DiskState) (old new : Spooled D) → SpoolLasts disk old new → old.closed ≡ true → new.closed ≡ true
failed_still {D} disk old new lasts was = ap (λ (s : Spooled D). s.closed) (lasts.untouched was) ∙ was

module _ {D : Type 0} (disk : D → DiskState) (frames : List (List ℕ)) (k count n : ℕ) (i j : OutletState) (old mid new : Held D) (passes : MovesLine disk frames k n i j old mid)
    (keeps : MovesLine disk (drop k frames) (count - k) 0 j j mid new) (from : k ≤ count) where
  pub both_moves : MovesLine disk frames count n i j old new
  both_moves =
      let all : k + (count - k) ≡ count = omega (arith, from) in
      subst (λ (t : ℕ). MovesLine disk frames t n i j old new) all (moves_kept disk frames k (count - k) n i j j old mid new passes keeps refl)

  since_cause : (old.store.closed ≡ true) ⊎ Rose (disk old.store.disk).faults (disk new.store.disk).faults → HasSendCauseOf disk i j old new (Err (refusal_of Store))
  since_cause (inl was) = inl was
  since_cause (inr rose) = inr (inr rose)

  store_cause : new.store.closed ≡ true → HasSendCauseOf disk i j old new (Err (refusal_of Store))
  store_cause closed = since_cause (failed_since disk old.store new.store old.store.closed refl both_moves.lasts closed)

  -- why the forwarding stopped is why a frame isn't taken
  passes_cause : (stop : Stop) → StopCause i j mid.store.closed stop → HasSendCauseOf disk i j old new (Err (refusal_of stop))
  passes_cause Open cause = tt
  passes_cause Outlet cause = inr (inl cause)
  passes_cause Later cause = cause
  passes_cause Store cause = store_cause (failed_still disk mid.store new.store keeps.lasts cause)
  passes_cause NoMemory cause = tt

  pub refused_cause : (before stop : Stop) → StopCause i j mid.store.closed before → KeepCause before new.store.closed count (length frames) stop → HasSendCauseOf disk i j old new (Err (refusal_of stop))
  refused_cause before stop cause (inl same) = subst (λ (s : Stop). HasSendCauseOf disk i j old new (Err (refusal_of s))) (sym same) (passes_cause before cause)
  refused_cause before stop cause (inr (less, inl none)) = subst (λ (s : Stop). HasSendCauseOf disk i j old new (Err (refusal_of s))) (sym none) tt
  refused_cause before stop cause (inr (less, inr (failed, closed))) =
      subst (λ (s : Stop). HasSendCauseOf disk i j old new (Err (refusal_of s))) (sym failed) (store_cause closed)
