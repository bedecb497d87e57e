-- Records that come in, one record on.
use Rattle.std.proofs.Common.{◌≡◌, ◌≢◌, ℕ, ◌+◌, ◌-◌, ◌<◌, List, ◌∷◌, suc, length, Some, None, Bool, true, false, refl, sym, ◌∙◌, arith, slice_get, if◌then◌else◌, inl, inr}
use Rattle.std.specs.Option.{option_map_or}
use Rattle.std.proofs.lemmas.Bool.{cases_eq}
use Rattle.std.proofs.lemmas.List.{take_all}
use Rattle.sg_msg.specs.declared.offer.Offer.{Offer}
use Rattle.sg_machine.specs.declared.event.Admission.{Admission}
use Rattle.sg_machine.specs.declared.event.Verdict.{Verdict}
use Rattle.sg_machine.specs.declared.running.DestRun.{DestRun}
use Rattle.sg_machine.specs.declared.running.Run.{Run}
use Rattle.sg_machine.specs.Turns.{settle_turn, settle_turns, can_move, move_turn, move_turns, judged_runs, begun_in, record_taken, record_turn, record_turns}
use Rattle.sg_machine.proofs.DropLemmas.{judged_runs-lengths}

none-is-some : (z : List ℕ) → None ≡ Some z → ⊥
none-is-some z h = cc

-- right verdicts are as many as the offers
pub judged-length : (i number : ℕ) (failing : List ℕ) (dests : List DestRun) (failed : List ℕ) (os : List Offer) (vs : List Verdict) (z : List ℕ) → judged_runs i number failing dests failed os vs ≡ Some z → length os ≡ length vs
judged-length i number failing dests failed os vs z h =
    elim (cases_eq (length os) (length vs)) [
      | inl e ↦ e
      | inr ne ↦ absurd (none-is-some z (sym (judged_runs-lengths i number failing dests failed os vs ne) ∙ h))
    ]

-- too few verdicts
pub too-few : (i : ℕ) (failing : List ℕ) (run : Run) (r : Admission) (rs : List Admission) (vs : List Verdict) → length vs < length r.offers → record_turns i failing run (r ∷ rs) vs ≡ None
too-few i failing run r rs vs h =
    let all = take_all (length r.offers) vs (omega arith) in
    let ne : length r.offers ≢ length vs = omega arith in
    rw (all, judged_runs-lengths i (begun_in run.sources i) failing run.dests run.failed r.offers vs ne) refl

-- the answer of one record
pub record-answer : (i : ℕ) (failing : List ℕ) (run : Run) (r : Admission) (vs : List Verdict) (number : ℕ) (b : Bool) (failed : List ℕ) → begun_in run.sources i ≡ number
    → judged_runs i number failing run.dests run.failed r.offers vs ≡ (if b then Some failed else None)
    → record_turn i failing run r vs ≡ (if b then Some (record_taken i run r vs failed) else None)
record-answer i failing run r vs number true failed e h = let j = rw (← e) at h in rw j refl
record-answer i failing run r vs number false failed e h = let j = rw (← e) at h in rw j refl

-- Entries that are settled or moved, one entry on.

pub settle-next : (n k d : ℕ) (run : Run) → k < n → settle_turns (n - k) d run ≡ settle_turns (n - (k + 1)) d (settle_turn d run)
settle-next n k d run h = let e : n - k ≡ suc (n - (k + 1)) = omega arith in rw e refl

pub move-next : (n k capacity d : ℕ) (run : Run) → k < n → option_map_or (can_move capacity) (slice_get run.dests d) false ≡ true → move_turns (n - k) capacity d run ≡ move_turns (n - (k + 1)) capacity d (move_turn d run)
move-next n k capacity d run h can = let e : n - k ≡ suc (n - (k + 1)) = omega arith in rw (e, can) refl
