-- What becomes of a batch of records of one inlet, offer by offer.
use Rattle.std.specs.Prelude.{◌≡◌, ◌<◌, ℕ, ◌+◌, ◌-◌, Bool, false, ◌&&◌, if◌then◌else◌, Option, Some, None, List, [], ◌∷◌, ◌++◌, length, take, drop, slice_get}
use Rattle.std.specs.Option.{option_map_or}
use Rattle.sg_list.specs.Lists.{change}
use Rattle.sg_msg.specs.declared.offer.Offer.{Offer}
use Rattle.sg_window.specs.declared.tracker.BegunRecord.{BegunRecord}
use Rattle.sg_machine.specs.declared.event.Admission.{Admission}
use Rattle.sg_machine.specs.declared.event.Verdict.{Verdict}
use Rattle.sg_machine.specs.declared.event.Verdict.TheVariants.{DroppedFull}
use Rattle.sg_machine.specs.declared.setup.BufferSetup.{BufferSetup}
use Rattle.sg_machine.specs.Turns.{owing}
use Rattle.sg_machine.specs.Verdicts.{Claim}
use Rattle.sg_offers.specs.declared.batch.Payload.{Payload}
use Rattle.sg_offers.specs.Payloads.{buffer_at}
use Rattle.sg_sinks.specs.Blocks.{block_of_offer}
use Rattle.sg_sinks.specs.States.{SinkState, Sunk}
use Rattle.sg_sinks.specs.Offers.{would_spool, verdict_of, offered}

-- the store of that destination fails within the call
abbrev pub fails_at : List Bool → ℕ → Bool
fails_at fails d = option_map_or (λ b. b) (slice_get fails d) false

-- the verdict of an offer, which is to a destination that is there
abbrev pub verdict_at : List Bool → List SinkState → Offer → Verdict
verdict_at fails sinks offer =
    option_map_or (λ sink. verdict_of (fails_at fails offer.dest) sink offer)
    (slice_get sinks offer.dest) DroppedFull

-- its destination behind it
abbrev pub offered_by : List Bool → ℕ → ℕ → Claim → SinkState → SinkState
offered_by fails i next c sink =
    let fail = fails_at fails c.offer.dest in
    offered fail i (next + c.place) c.offer (block_of_offer sink.setup.buffer i c.end c.offer)
    (verdict_of fail sink c.offer) sink

abbrev pub sinks_then : List Bool → ℕ → ℕ → List SinkState → Claim → List SinkState
sinks_then fails i next sinks c = change sinks c.offer.dest (offered_by fails i next c)

-- the destinations behind all these offers
abbrev pub sinks_after : List Bool → ℕ → ℕ → List SinkState → List Claim → List SinkState
sinks_after fails i next sinks [] = sinks
sinks_after fails i next sinks (c ∷ cs) = sinks_after fails i next (sinks_then fails i next sinks c)
    cs

-- the verdicts of all these offers, each judged after the ones before
abbrev pub verdicts_from : List Bool → ℕ → ℕ → List SinkState → List Claim → List Verdict
verdicts_from fails i next sinks [] = []
verdicts_from fails i next sinks (c ∷ cs) = verdict_at fails sinks c.offer
    ∷ verdicts_from fails i next (sinks_then fails i next sinks c) cs

-- the store that fails at an offer to this destination
abbrev pub failing_by : Option BufferSetup → Bool → List ℕ
failing_by None fails = []
failing_by (Some buffer) fails = if fails then buffer.store ∷ [] else []

abbrev pub failing_at : List Bool → List SinkState → Offer → List ℕ
failing_at fails sinks offer = option_map_or
    (λ sink. failing_by sink.setup.buffer (fails_at fails offer.dest && would_spool sink offer))
    (slice_get sinks offer.dest) []

-- the stores that fail, each at the first offer that it would spool
abbrev pub failing_in : List Bool → ℕ → ℕ → List SinkState → List Claim → List ℕ
failing_in fails i next sinks [] = []
failing_in fails i next sinks (c ∷ cs) = failing_at fails sinks c.offer
    ++ failing_in fails i next (sinks_then fails i next sinks c) cs

-- a destination with its room behind an offer with this block and verdict, or behind one of a batch
abbrev pub spent : Bool → ℕ → ℕ → Offer → Option (List ℕ) → Verdict → Sunk → Sunk
spent fail i number offer block verdict sink =
    record { seen = offered fail i number offer block verdict sink.seen; room = sink.room - 1 }

abbrev pub spent_by : List Bool → ℕ → ℕ → Claim → Sunk → Sunk
spent_by fails i next c sink =
    record { seen = offered_by fails i next c sink.seen; room = sink.room - 1 }

abbrev pub spent_then : List Bool → ℕ → ℕ → List Sunk → Claim → List Sunk
spent_then fails i next sinks c = change sinks c.offer.dest (spent_by fails i next c)

abbrev pub spent_after : List Bool → ℕ → ℕ → List Sunk → List Claim → List Sunk
spent_after fails i next sinks [] = sinks
spent_after fails i next sinks (c ∷ cs) = spent_after fails i next (spent_then fails i next sinks c)
    cs

-- records with these verdicts of their offers, each with the acknowledgements that it needs
abbrev pub begun_of : List Admission → List Verdict → List BegunRecord
begun_of [] vs = []
begun_of (r ∷ rs) vs = record { end = r.end; left = owing r.offers (take (length r.offers) vs) }
    ∷ begun_of rs (drop (length r.offers) vs)

-- the payloads, of which there may be more, have the blocks of these offers, in order
abbrev pub AreBlocks : ℕ → List (Option BufferSetup) → List Claim → List Payload → Type 0
AreBlocks i buffers [] ps = Unit {0}
AreBlocks i buffers (c ∷ cs) [] = ⊥
AreBlocks i buffers (c ∷ cs) (p ∷ ps) =
    (p.block ≡ block_of_offer (buffer_at buffers c.offer.dest) i c.end c.offer)
    × AreBlocks i buffers cs ps

abbrev pub first_block : List Payload → Option (List ℕ)
first_block [] = None
first_block (p ∷ ps) = p.block

-- each offer is to one of so many destinations
abbrev pub AreClaimsWithin : ℕ → List Claim → Type 0
AreClaimsWithin count [] = Unit {0}
AreClaimsWithin count (c ∷ cs) = (c.offer.dest < count) × AreClaimsWithin count cs
