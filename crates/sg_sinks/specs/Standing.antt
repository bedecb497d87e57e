-- What a core keeps of a destination of the machine.
use Rattle.std.specs.Prelude.{◌≡◌, ℕ, ◌+◌, Bool, true, ◌&&◌, not, if◌then◌else◌, Option, Some, None, unwrap_or, is_some, List, [], ◌∷◌, length}
use Rattle.std.specs.List.{list_all}
use Rattle.sg_msg.specs.Length.{encoded_len}
use Rattle.sg_codec.specs.declared.kept.Kept.{Kept}
use Rattle.sg_queue.specs.declared.entry.Entry.{Entry as Waiting}
use Rattle.sg_machine.specs.declared.setup.BufferSetup.{BufferSetup}
use Rattle.sg_machine.specs.declared.state.DestEntry.{DestEntry}
use Rattle.sg_machine.specs.declared.state.Dest.{Dest}
use Rattle.sg_sinks.specs.Blocks.{block_of}
use Rattle.sg_sinks.specs.States.{SinkState}

-- the entry as a disk-buffer keeps it
abbrev pub kept_of : DestEntry → Kept
kept_of e = record { source = e.inlet; end = e.end; flow = e.flow; message = e.message }

-- the lengths of the spooled ones
abbrev pub lengths_of : List DestEntry → List ℕ
lengths_of [] = []
lengths_of (e ∷ es) = if e.spooled then encoded_len e.message ∷ lengths_of es else lengths_of es

-- those that aren't spooled, each with its place among all that the destination was given
abbrev pub waiting_at : ℕ → DestEntry → Waiting
waiting_at place e = record {
  place = place;
  inlet = e.inlet;
  number = unwrap_or e.number 0;
  flow = e.flow;
  message = e.message;
}

abbrev pub waiting_from : ℕ → List DestEntry → List Waiting
waiting_from place [] = []
waiting_from place (e ∷ es) = if e.spooled then waiting_from place es
    else waiting_at place e ∷ waiting_from (place + 1) es

abbrev pub blocks_of : Option BufferSetup → List DestEntry → List (Option (List ℕ))
blocks_of buffer [] = []
blocks_of buffer (e ∷ es) = if e.spooled then blocks_of buffer es
    else block_of buffer (kept_of e) ∷ blocks_of buffer es

-- what the core keeps of it, where its store is broken or not
abbrev pub sink_of : Bool → Dest → SinkState
sink_of broken dest = record {
  setup = dest.setup;
  taken = length dest.settled;
  lengths = lengths_of dest.left;
  entries = waiting_from (length dest.settled + length (lengths_of dest.left)) dest.left;
  blocks = blocks_of dest.setup.buffer dest.left;
  broken = broken;
  dropped_full = dest.dropped_full;
  dropped_disk = dest.dropped_disk;
}

-- none is spooled, and each is of a record of this run
abbrev pub are_waiting : List DestEntry → Bool
are_waiting left = list_all (λ e. not e.spooled && is_some e.number) left

-- those that are spooled stand first
abbrev pub are_split : List DestEntry → Bool
are_split [] = true
are_split (e ∷ es) = if e.spooled then are_split es else are_waiting (e ∷ es)

abbrev pub is_split_by : Option BufferSetup → List DestEntry → Bool
is_split_by None left = are_waiting left
is_split_by (Some buffer) left = are_split left

-- so it is at each destination that a core comes to; without a disk-buffer none is spooled
abbrev pub IsSplit : Dest → Type 0
IsSplit dest = is_split_by dest.setup.buffer dest.left ≡ true
