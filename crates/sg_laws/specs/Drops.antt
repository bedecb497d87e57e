-- Where offers are dropped: only without flow-control, at a full or failed buffer.
use Rattle.std.specs.Prelude.{◌≡◌, ◌≤◌, ◌⊎◌, ℕ, true, false, Option, Some, None, List, [], ◌∷◌, ◌++◌, slice_get}
use Rattle.sg_msg.specs.Message.{Content}
use Rattle.sg_msg.specs.declared.offer.Offer.{Offer}
use Rattle.sg_machine.specs.declared.event.Act.TheVariants.{Admit}
use Rattle.sg_machine.specs.declared.event.Admission.{Admission}
use Rattle.sg_machine.specs.declared.event.Event.{Event}
use Rattle.sg_machine.specs.declared.event.Verdict.{Verdict}
use Rattle.sg_machine.specs.declared.event.Verdict.TheVariants.{DroppedFull, DroppedDisk}
use Rattle.sg_machine.specs.declared.setup.BufferSetup.{BufferSetup}
use Rattle.sg_machine.specs.declared.state.Dest.{Dest}
use Rattle.sg_machine.specs.declared.state.DestEntry.{DestEntry}
use Rattle.sg_machine.specs.declared.state.State.{State}
use Rattle.sg_machine.specs.Effects.{next_of}
use Rattle.sg_machine.specs.Entries.{fits, any_waits, unflowed}
use Rattle.sg_machine.specs.Runs.{after_all, are_legal}
use Rattle.sg_machine.specs.Verdicts.{Claim, claims_of, is_listed, take_claim}

-- There is no room: a queue in memory has as many entries without flow-control as its log-fifo-size() says; in a disk-buffer an entry
-- waits, or this message doesn't fit.
abbrev pub IsFull : Option BufferSetup → ℕ → List DestEntry → Content → Type 0
IsFull None fifo left message = fifo ≤ unflowed left
IsFull (Some buffer) fifo left message = (any_waits left ≡ true)
    ⊎ (fits buffer.capacity left message ≡ false)

-- the store of the disk-buffer is one of those that have failed
abbrev pub HasBufferFailed : Option BufferSetup → List ℕ → Type 0
HasBufferFailed None failed = ⊥
HasBufferFailed (Some buffer) failed = is_listed buffer.store failed ≡ true

-- an offer that is dropped has no flow-control, and its destination is full or has failed
abbrev pub IsDue : Option BufferSetup → ℕ → List DestEntry → List ℕ → Offer → Verdict → Type 0
IsDue buffer fifo left failed o DroppedFull = (o.flow ≡ false) × IsFull buffer fifo left o.message
IsDue buffer fifo left failed o DroppedDisk = (o.flow ≡ false) × HasBufferFailed buffer failed
IsDue buffer fifo left failed o _ = Unit {0}

abbrev pub IsDueAt : Option Dest → List ℕ → Offer → Verdict → Type 0
IsDueAt None failed o v = ⊥
IsDueAt (Some dest) failed o v = IsDue dest.setup.buffer dest.setup.fifo dest.left failed o v

-- the offers of i in order, each behind those before it
abbrev pub AreOffersDue : (i next : ℕ) → List Dest → List ℕ → List Claim → List Verdict → Type 0
AreOffersDue i next dests failed [] vs = Unit {0}
AreOffersDue i next dests failed (c ∷ cs) [] = Unit {0}
AreOffersDue i next dests failed (c ∷ cs) (v ∷ vs) =
    IsDueAt (slice_get dests c.offer.dest) failed c.offer v
    × AreOffersDue i next (take_claim i next dests c v) failed cs vs

-- so it is with each drop of legal events
abbrev pub DropsAreDue : Type 0
DropsAreDue =
    (start : State) (before later : List Event) (i : ℕ) (records : List Admission)
    (verdicts : List Verdict) (failed : List ℕ)
    → are_legal start (before ++ record { act = Admit i records verdicts; failed = failed } ∷ later)
    ≡ true
    → AreOffersDue i (next_of (after_all start before) i) (after_all start before).dests
    ((after_all start before).failed ++ failed) (claims_of records) verdicts
