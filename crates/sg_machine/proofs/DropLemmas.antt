-- Offers taken one after another, and how many are dropped.
use Rattle.std.proofs.Common.{◌≡◌, ◌≢◌, ℕ, ◌+◌, ◌≤◌, List, [], ◌∷◌, length, drop, Some, None, refl, ap, arith, suc, zero, slice_get, max, if◌then◌else◌}
use Rattle.std.specs.Prelude.{option_and_then}
use Rattle.sg_list.specs.Lists.{change}
use Rattle.sg_list.proofs.ListLemmas.{drop-get}
use Rattle.sg_msg.specs.declared.offer.Offer.{Offer}
use Rattle.sg_machine.specs.declared.event.Verdict.{Verdict}
use Rattle.sg_machine.specs.declared.event.Verdict.TheVariants.{Queued, Spooled, Waits, DroppedFull, DroppedDisk}
use Rattle.sg_machine.specs.declared.running.DestRun.{DestRun}
use Rattle.sg_machine.specs.Turns.{judged_run, offered_run, offered_runs, judged_runs, owes_by, owing, most_run}

pub judged_runs-step : (i number : ℕ) (failing : List ℕ) (dests : List DestRun) (failed : List ℕ) (offers : List Offer) (verdicts : List Verdict) (k : ℕ) (o : Offer) (v : Verdict)
    → slice_get offers k ≡ Some o → slice_get verdicts k ≡ Some v
    → judged_runs i number failing dests failed (drop k offers) (drop k verdicts)
    ≡ option_and_then (λ f. judged_runs i number failing (change dests o.dest (offered_run i number o v)) f (drop (k + 1) offers) (drop (k + 1) verdicts)) (judged_run (slice_get dests o.dest) failing failed o v)
judged_runs-step i number failing dests failed offers verdicts k o v eo ev = rw (drop-get offers k o eo, drop-get verdicts k v ev) refl

pub offered_runs-step : (i number : ℕ) (dests : List DestRun) (offers : List Offer) (verdicts : List Verdict) (k : ℕ) (o : Offer) (v : Verdict)
    → slice_get offers k ≡ Some o → slice_get verdicts k ≡ Some v
    → offered_runs i number dests (drop k offers) (drop k verdicts) ≡ offered_runs i number (change dests o.dest (offered_run i number o v)) (drop (k + 1) offers) (drop (k + 1) verdicts)
offered_runs-step i number dests offers verdicts k o v eo ev = rw (drop-get offers k o eo, drop-get verdicts k v ev) refl

pub owing-step : (offers : List Offer) (verdicts : List Verdict) (k : ℕ) (o : Offer) (v : Verdict) → slice_get offers k ≡ Some o → slice_get verdicts k ≡ Some v
    → owing (drop k offers) (drop k verdicts) ≡ (if owes_by o.flow v then 1 else 0) + owing (drop (k + 1) offers) (drop (k + 1) verdicts)
owing-step offers verdicts k o v eo ev = rw (drop-get offers k o eo, drop-get verdicts k v ev) refl

-- with lists of different lengths a verdict is wrong
pub judged_runs-lengths : (i number : ℕ) (failing : List ℕ) (dests : List DestRun) (failed : List ℕ) (offers : List Offer) (verdicts : List Verdict)
    → length offers ≢ length verdicts → judged_runs i number failing dests failed offers verdicts ≡ None
judged_runs-lengths i number failing dests failed [] [] h = absurd (h refl)
judged_runs-lengths i number failing dests failed [] (v ∷ vs) h = refl
judged_runs-lengths i number failing dests failed (o ∷ os) [] h = refl
judged_runs-lengths i number failing dests failed (o ∷ os) (v ∷ vs) h =
    elim (judged_run (slice_get dests o.dest) failing failed o v) as (λ r. option_and_then (λ f. judged_runs i number failing (change dests o.dest (offered_run i number o v)) f os vs) r ≡ None) [
      | None ↦ refl
      | Some f ↦ judged_runs-lengths i number failing (change dests o.dest (offered_run i number o v)) f os vs (λ e. h (ap suc e))
    ]

offered_run-dropped : (i number : ℕ) (o : Offer) (v : Verdict) (d : DestRun) → max (offered_run i number o v d).dropped_full (offered_run i number o v d).dropped_disk ≤ max d.dropped_full d.dropped_disk + 1
offered_run-dropped i number o Queued d = omega arith
offered_run-dropped i number o Spooled d = omega arith
offered_run-dropped i number o Waits d = omega arith
offered_run-dropped i number o DroppedFull d = omega arith
offered_run-dropped i number o DroppedDisk d = omega arith

pub most_run-change : (i number : ℕ) (o : Offer) (v : Verdict) (ds : List DestRun) (k : ℕ) → most_run (change ds k (offered_run i number o v)) ≤ most_run ds + 1
most_run-change i number o v [] k = omega arith
most_run-change i number o v (d ∷ ds) zero = omega (arith, offered_run-dropped i number o v d)
most_run-change i number o v (d ∷ ds) (suc k) = omega (arith, most_run-change i number o v ds k)

pub most_run-get : (ds : List DestRun) (k : ℕ) (d : DestRun) → slice_get ds k ≡ Some d → max d.dropped_full d.dropped_disk ≤ most_run ds
most_run-get [] k d e = grind arith
most_run-get (x ∷ ds) zero d e = grind arith
most_run-get (x ∷ ds) (suc k) d e = omega (arith, most_run-get ds k d e)
