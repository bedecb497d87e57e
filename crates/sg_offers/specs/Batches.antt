-- Destinations of the machine that a batch comes to.
use Rattle.std.specs.Prelude.{◌≡◌, ◌<◌, ℕ, false, Option, Some, option_and_then, List, length, map, slice_get}
use Rattle.sg_machine.specs.declared.setup.BufferSetup.{BufferSetup}
use Rattle.sg_machine.specs.declared.state.Dest.{Dest}
use Rattle.sg_machine.specs.Verdicts.{Claim}
use Rattle.sg_machine.specs.Legal.{store_of}
use Rattle.sg_sinks.specs.States.{SinkState}
use Rattle.sg_sinks.specs.Standing.{sink_of, IsSplit}
use Rattle.sg_sinks.specs.Laws.{is_listed_in}
use Rattle.sg_offers.specs.Payloads.{payloads_of, taken_at}

-- what the core keeps of them, where these stores have failed
abbrev pub sinks_at : List ℕ → List Dest → List SinkState
sinks_at failed dests = map (λ dest. sink_of (is_listed_in dest.setup.buffer failed) dest) dests

abbrev pub AreSplit : List Dest → Type 0
AreSplit dests = (d : ℕ) (dest : Dest) → slice_get dests d ≡ Some dest → IsSplit dest

-- the store of the disk-buffer of d
abbrev pub buffer_in : List Dest → ℕ → Option ℕ
buffer_in dests d = option_and_then (λ dest. store_of dest) (slice_get dests d)

-- no store is that of two disk-buffers
abbrev pub AreBuffersApart : List Dest → Type 0
AreBuffersApart dests = (d e s : ℕ) → buffer_in dests d ≡ Some s → buffer_in dests e ≡ Some s
    → d ≡ e

-- d has a disk-buffer, whose store works, and which takes an offer of the batch, so that the store may fail
pub record WouldFail (i : ℕ) (sinks : List SinkState) (claims : List Claim) (d : ℕ) : Type 0 where
  pub sink : SinkState
  pub buffer : BufferSetup
  pub there : slice_get sinks d ≡ Some sink
  pub has : sink.setup.buffer ≡ Some buffer
  pub works : sink.broken ≡ false
  pub some : 0 < length (taken_at d i claims (payloads_of i sinks claims))
