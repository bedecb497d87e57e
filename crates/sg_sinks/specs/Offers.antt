-- Offers to a destination, after syslog-ng's log-fifo-size() and disk-buffer().
use Rattle.std.specs.Prelude.{ℕ, ◌+◌, ◌==◌, nat_lt, Bool, false, ◌&&◌, ◌||◌, not, if◌then◌else◌, Option, Some, None, List, [], ◌∷◌, ◌++◌, length}
use Rattle.sg_msg.specs.Length.{encoded_len}
use Rattle.sg_msg.specs.declared.offer.Offer.{Offer}
use Rattle.sg_queue.specs.declared.entry.Entry.{Entry}
use Rattle.sg_queue.specs.Waiting.{unflowed_of}
use Rattle.sg_machine.specs.declared.event.Verdict.{Verdict}
use Rattle.sg_machine.specs.declared.event.Verdict.TheVariants.{Queued, Spooled, Waits, DroppedFull, DroppedDisk}
use Rattle.sg_machine.specs.declared.setup.BufferSetup.{BufferSetup}
use Rattle.sg_sinks.specs.Fitting.{space, has_space}
use Rattle.sg_sinks.specs.States.{SinkState}

-- no entry waits, and the message's entry fits
abbrev pub spools_in : Option BufferSetup → SinkState → Offer → Bool
spools_in None sink offer = false
spools_in (Some buffer) sink offer = length sink.entries == 0
    && has_space buffer.capacity (space sink.lengths) (encoded_len offer.message)

-- the store works before the offer, and would spool it
abbrev pub would_spool : SinkState → Offer → Bool
would_spool sink offer = not sink.broken && spools_in sink.setup.buffer sink offer

-- the store has failed once the offer is judged; where it fails within the call, it does at the first offer that it would spool
abbrev pub broken_then : Bool → SinkState → Offer → Bool
broken_then fails sink offer = sink.broken || (fails && would_spool sink offer)

-- of a queue in memory: without flow-control there is room for so many
abbrev pub queue_verdict : SinkState → Offer → Verdict
queue_verdict sink offer = if offer.flow || nat_lt (unflowed_of sink.entries) sink.setup.fifo
    then Queued else DroppedFull

-- of a disk-buffer whose store works until the offer, which it would spool or not
abbrev pub working_verdict : Bool → Bool → Bool → Verdict
working_verdict spools fails flow =
    if spools then (if fails then (if flow then Waits else DroppedDisk) else Spooled)
    else (if flow then Waits else DroppedFull)

-- of a disk-buffer, whose store is broken or works
abbrev pub disk_verdict : Bool → SinkState → Offer → Verdict
disk_verdict broken sink offer =
    if broken then (if offer.flow then Waits else DroppedDisk)
    else if would_spool sink offer then Spooled
    else (if offer.flow then Waits else DroppedFull)

abbrev pub verdict_by : Option BufferSetup → Bool → SinkState → Offer → Verdict
verdict_by None fails sink offer = queue_verdict sink offer
verdict_by (Some buffer) fails sink offer = disk_verdict (broken_then fails sink offer) sink offer

-- what becomes of an offer, at a destination whose store fails within the call or doesn't
abbrev pub verdict_of : Bool → SinkState → Offer → Verdict
verdict_of fails sink offer = verdict_by sink.setup.buffer fails sink offer

-- its entry, which waits, of the record of that inlet and number
abbrev pub entry_at : ℕ → ℕ → Offer → SinkState → Entry
entry_at inlet number offer sink =
    record {
      place = sink.taken + length sink.lengths + length sink.entries;
      inlet = inlet;
      number = number;
      flow = offer.flow;
      message = offer.message;
    }

abbrev pub keeps : ℕ → ℕ → Offer → Option (List ℕ) → SinkState → SinkState
keeps inlet number offer block sink = record sink {
  entries = sink.entries ++ entry_at inlet number offer sink ∷ [];
  blocks = sink.blocks ++ block ∷ [];
}

-- what an offer leaves, by its verdict; the block is that of its entry
abbrev pub takes : ℕ → ℕ → Offer → Option (List ℕ) → Verdict → SinkState → SinkState
takes inlet number offer block Queued sink = keeps inlet number offer block sink
takes inlet number offer block Spooled sink =
    record sink { lengths = sink.lengths ++ encoded_len offer.message ∷ [] }
takes inlet number offer block Waits sink = keeps inlet number offer block sink
takes inlet number offer block DroppedFull sink =
    record sink { dropped_full = sink.dropped_full + 1 }
takes inlet number offer block DroppedDisk sink =
    record sink { dropped_disk = sink.dropped_disk + 1 }

-- the same with whether the store has failed
abbrev pub offered : Bool → ℕ → ℕ → Offer → Option (List ℕ) → Verdict → SinkState → SinkState
offered fails inlet number offer block verdict sink =
    record (takes inlet number offer block verdict sink) { broken = broken_then fails sink offer }

-- how many offers it was given at most
abbrev pub given : SinkState → ℕ
given sink = sink.taken + length sink.lengths + length sink.entries + sink.dropped_full
    + sink.dropped_disk
