-- What a destination of the core says of that of the machine.
use Rattle.std.proofs.Common.{◌≡◌, ℕ, ◌+◌, ◌==◌, List, [], ◌∷◌, ◌++◌, length, Option, Some, None, Bool, true, false, ◌&&◌, ◌||◌, not, refl, if◌then◌else◌}
use Rattle.std.specs.Prelude.{nat_le, nat_lt}
use Rattle.sg_msg.specs.Length.{encoded_len}
use Rattle.sg_msg.specs.declared.offer.Offer.{Offer}
use Rattle.sg_machine.specs.declared.event.Verdict.{Verdict}
use Rattle.sg_machine.specs.declared.event.Verdict.TheVariants.{Queued, Spooled, Waits, DroppedFull, DroppedDisk}
use Rattle.sg_machine.specs.declared.setup.BufferSetup.{BufferSetup}
use Rattle.sg_machine.specs.declared.state.Dest.{Dest}
use Rattle.sg_machine.specs.Entries.{unflowed}
use Rattle.sg_machine.specs.Verdicts.{is_listed, same_verdict}
use Rattle.sg_sinks.specs.Fitting.{space}
use Rattle.sg_sinks.specs.Standing.{lengths_of, waiting_from, is_split_by, IsSplit}
use Rattle.sg_sinks.specs.Laws.{Judging}
use Rattle.sg_sinks.proofs.LeftLemmas.{unflowed-waiting, waiting-any, used-space}

-- Verdicts.

same-refl : (v : Verdict) → same_verdict v v ≡ true
same-refl Queued = refl
same-refl Spooled = refl
same-refl Waits = refl
same-refl DroppedFull = refl
same-refl DroppedDisk = refl

-- of a broken store, and of one that is broken or works, beside no entry that waits or some, where the offer fits or doesn't
abbrev lost : Bool → Verdict
lost flow = if flow then Waits else DroppedDisk

abbrev full : Bool → Verdict
full flow = if flow then Waits else DroppedFull

abbrev judge_as : Bool → Bool → Bool → Bool → Verdict
judge_as broken none fits flow = if broken then lost flow else if not none || not fits then full flow else Spooled

abbrev verdict_as : Bool → Bool → Bool → Bool → Bool → Verdict
verdict_as broken fails none fits flow =
    if broken || (fails && (not broken && (none && fits))) then lost flow else if not broken && (none && fits) then Spooled else full flow

table : (store : ℕ) (failed : List ℕ) (broken fails none fits flow : Bool)
    → (if fails && same_verdict Spooled (judge_as broken none fits flow)
    then (if same_verdict (verdict_as broken fails none fits flow) (judge_as true none fits flow) then Some (failed ++ store ∷ []) else None)
    else (if same_verdict (verdict_as broken fails none fits flow) (judge_as broken none fits flow) then Some failed else None))
    ≡ Some (if fails && (not broken && (none && fits)) then failed ++ store ∷ [] else failed)
table store failed true true true true true = refl
table store failed true true true true false = refl
table store failed true true true false true = refl
table store failed true true true false false = refl
table store failed true true false true true = refl
table store failed true true false true false = refl
table store failed true true false false true = refl
table store failed true true false false false = refl
table store failed true false true true true = refl
table store failed true false true true false = refl
table store failed true false true false true = refl
table store failed true false true false false = refl
table store failed true false false true true = refl
table store failed true false false true false = refl
table store failed true false false false true = refl
table store failed true false false false false = refl
table store failed false true true true true = refl
table store failed false true true true false = refl
table store failed false true true false true = refl
table store failed false true true false false = refl
table store failed false true false true true = refl
table store failed false true false true false = refl
table store failed false true false false true = refl
table store failed false true false false false = refl
table store failed false false true true true = refl
table store failed false false true true false = refl
table store failed false false true false true = refl
table store failed false false true false false = refl
table store failed false false false true true = refl
table store failed false false false true false = refl
table store failed false false false false true = refl
table store failed false false false false false = refl

judging-by : (buffer : Option BufferSetup) (dest : Dest) (failing failed : List ℕ) (offer : Offer) → dest.setup.buffer ≡ buffer → is_split_by buffer dest.left ≡ true → Judging dest failing failed offer
judging-by None dest failing failed offer e h =
    let p : ℕ = length dest.settled + length (lengths_of dest.left) in
    let u = unflowed-waiting p dest.left h in
    rw (e, u) (rw (same-refl (if offer.flow || nat_lt (unflowed dest.left) dest.setup.fifo then Queued else DroppedFull)) refl)
judging-by (Some buffer) dest failing failed offer e h =
    let p : ℕ = length dest.settled + length (lengths_of dest.left) in
    rw (e, waiting-any p dest.left, used-space dest.left)
    (table buffer.store failed (is_listed buffer.store failed) (is_listed buffer.store failing) (length (waiting_from p dest.left) == 0)
    (nat_le (space (lengths_of dest.left) + (5 + encoded_len offer.message + 1)) buffer.capacity) offer.flow)

pub judging : (dest : Dest) (failing failed : List ℕ) (offer : Offer) → IsSplit dest → Judging dest failing failed offer
judging dest failing failed offer h = judging-by dest.setup.buffer dest failing failed offer refl h
