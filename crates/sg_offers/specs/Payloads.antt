-- The payloads of a batch's offers, and which of them the disk-buffers take.
use Rattle.std.specs.Prelude.{◌≡◌, ◌≤◌, ℕ, ◌+◌, ◌^◌, ◌==◌, Bool, true, false, ◌&&◌, if◌then◌else◌, Option, Some, None, option_and_then, IsSome, List, [], ◌∷◌, map, slice_get}
use Rattle.sg_list.specs.Lists.{change}
use Rattle.sg_msg.specs.Length.{encoded_len}
use Rattle.sg_msg.specs.declared.offer.Offer.{Offer}
use Rattle.sg_codec.specs.Spelling.{spelling2, IsSpellable}
use Rattle.sg_machine.specs.declared.setup.BufferSetup.{BufferSetup}
use Rattle.sg_machine.specs.Verdicts.{Claim}
use Rattle.sg_machine.specs.Runs.{BufferedEntry}
use Rattle.sg_machine.specs.Safe.{kept_from}
use Rattle.sg_sinks.specs.Fitting.{has_space}
use Rattle.sg_sinks.specs.States.{SinkState}
use Rattle.sg_sinks.specs.Blocks.{kept_of_offer, block_of_offer}
use Rattle.sg_sinks.specs.Trials.{trial_of, takes_in, tried}
use Rattle.sg_sinks.specs.declared.trial.Trial.{Trial}
use Rattle.sg_offers.specs.declared.batch.Payload.{Payload}

-- the disk-buffers of destinations
abbrev pub buffers_of : List SinkState → List (Option BufferSetup)
buffers_of sinks = map (λ sink. sink.setup.buffer) sinks

-- that of the destination of this number, where it has one
abbrev pub buffer_at : List (Option BufferSetup) → ℕ → Option BufferSetup
buffer_at buffers d = option_and_then (λ buffer. buffer) (slice_get buffers d)

-- the trial of a destination with a disk-buffer whose store works
abbrev pub trial_by : Option BufferSetup → SinkState → Option Trial
trial_by None sink = None
trial_by (Some buffer) sink = if sink.broken then None else Some (trial_of buffer sink)

abbrev pub trial_in : SinkState → Option Trial
trial_in sink = trial_by sink.setup.buffer sink

abbrev pub trial_at : List (Option Trial) → ℕ → Option Trial
trial_at trials d = option_and_then (λ trial. trial) (slice_get trials d)

-- the offer is taken
abbrev pub takes_offer : Offer → Option Trial → Bool
takes_offer offer None = false
takes_offer offer (Some trial) = takes_in (encoded_len offer.message) trial

abbrev pub tried_offer : Offer → Option Trial → Option Trial
tried_offer offer None = None
tried_offer offer (Some trial) = Some (tried offer.flow (encoded_len offer.message) trial)

-- the trials once the offer has been tried at its destination
abbrev pub trials_then : List (Option Trial) → Offer → List (Option Trial)
trials_then trials offer = change trials offer.dest (tried_offer offer)

abbrev pub trials_after : List (Option Trial) → List Claim → List (Option Trial)
trials_after trials [] = trials
trials_after trials (c ∷ cs) = trials_after (trials_then trials c.offer) cs

-- the payload of an offer of the record of that inlet with that end
abbrev pub payload_of : ℕ → ℕ → List (Option BufferSetup) → List (Option Trial) → Offer → Payload
payload_of i end buffers trials offer = record {
  dest = offer.dest;
  block = block_of_offer (buffer_at buffers offer.dest) i end offer;
  taken = takes_offer offer (trial_at trials offer.dest);
}

abbrev pub payloads_from : ℕ → List (Option BufferSetup) → List (Option Trial) → List Claim
    → List Payload
payloads_from i buffers trials [] = []
payloads_from i buffers trials (c ∷ cs) = payload_of i c.end buffers trials c.offer
    ∷ payloads_from i buffers (trials_then trials c.offer) cs

-- the payloads of all offers of a batch, in order, each tried after the ones before
abbrev pub payloads_of : ℕ → List SinkState → List Claim → List Payload
payloads_of i sinks claims = payloads_from i (buffers_of sinks) (map trial_in sinks) claims

-- the entries that are taken at d, in order
abbrev pub taken_at : ℕ → ℕ → List Claim → List Payload → List BufferedEntry
taken_at d i [] ps = []
taken_at d i (c ∷ cs) [] = []
taken_at d i (c ∷ cs) (p ∷ ps) =
    if p.dest == d && p.taken then kept_from i c ∷ taken_at d i cs ps else taken_at d i cs ps

-- each of these entries fits behind the ones before, where so much is taken before the first
abbrev pub FitAll : ℕ → ℕ → List BufferedEntry → Type 0
FitAll capacity used [] = Unit {0}
FitAll capacity used (k ∷ ks) = (has_space capacity used (encoded_len k.message) ≡ true)
    × FitAll capacity (used + (5 + encoded_len k.message)) ks

-- an offer's entry that has a block can be spelled
abbrev pub AllSpellable : ℕ → List (Option BufferSetup) → List Claim → Type 0
AllSpellable i buffers [] = Unit {0}
AllSpellable i buffers (c ∷ cs) = (
    IsSome (block_of_offer (buffer_at buffers c.offer.dest) i c.end c.offer)
    → IsSpellable (kept_of_offer i c.end c.offer)) × AllSpellable i buffers cs

-- no disk-buffer has a capacity above 2^30
abbrev pub AreSmall : List (Option BufferSetup) → Type 0
AreSmall buffers = (d : ℕ) (buffer : BufferSetup) → buffer_at buffers d ≡ Some buffer
    → buffer.capacity ≤ 2 ^ 30

-- where the payload is taken, its block is that of the offer's entry
abbrev pub IsPayloadSpelled : ℕ → Claim → Payload → Type 0
IsPayloadSpelled i c p = p.taken ≡ true
    → (p.block ≡ Some (spelling2 (kept_of_offer i c.end c.offer)))
    × IsSpellable (kept_of_offer i c.end c.offer)

abbrev pub ArePayloadsSpelled : ℕ → List Claim → List Payload → Type 0
ArePayloadsSpelled i [] ps = Unit {0}
ArePayloadsSpelled i (c ∷ cs) [] = ⊥
ArePayloadsSpelled i (c ∷ cs) (p ∷ ps) = IsPayloadSpelled i c p × ArePayloadsSpelled i cs ps
