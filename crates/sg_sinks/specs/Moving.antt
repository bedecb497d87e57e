-- Entries that wait and go to the disk.
use Rattle.std.specs.Prelude.{◌≡◌, ℕ, true, List, [], ◌∷◌, ◌++◌, drop, Option, Some, slice_get, option_and_then}
use Rattle.std.specs.Option.{option_map_or}
use Rattle.sg_msg.specs.Length.{encoded_len}
use Rattle.sg_queue.specs.declared.entry.Entry.{Entry}
use Rattle.sg_sinks.specs.Fitting.{space, has_space}
use Rattle.sg_sinks.specs.States.{SinkState}

-- the first that waits, which is this
abbrev pub moved_entry : SinkState → Entry → SinkState
moved_entry sink e = record sink {
  lengths = sink.lengths ++ encoded_len e.message ∷ [];
  entries = drop 1 sink.entries;
  blocks = drop 1 sink.blocks;
}

abbrev pub moved_first : SinkState → SinkState
moved_first sink = option_map_or (moved_entry sink) (slice_get sink.entries 0) sink

-- it fits
abbrev pub FitsFirst : ℕ → SinkState → Type 0
FitsFirst capacity sink = (e : Entry) → slice_get sink.entries 0 ≡ Some e
    → has_space capacity (space sink.lengths) (encoded_len e.message) ≡ true

-- the payload of the entry at a place among those that wait, where it has one
abbrev pub block_at : List (Option (List ℕ)) → ℕ → Option (List ℕ)
block_at blocks k = option_and_then (λ block. block) (slice_get blocks k)
