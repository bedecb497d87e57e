-- What calls make of the destinations and sources of a core, one entry after another.
use Rattle.std.specs.Prelude.{◌≡◌, ◌≤◌, ℕ, ◌+◌, ◌-◌, true, Option, Some, None, List, [], ◌∷◌, ◌++◌, length, map, take, drop, slice_get, zero, suc}
use Rattle.std.specs.Option.{option_map_or}
use Rattle.sg_msg.specs.Length.{encoded_len}
use Rattle.sg_queue.specs.declared.entry.Entry.{Entry}
use Rattle.sg_machine.specs.declared.setup.BufferSetup.{BufferSetup}
use Rattle.sg_sinks.specs.Fitting.{space, has_space}
use Rattle.sg_sinks.specs.States.{SinkState}
use Rattle.sg_standing.specs.Sources.{CanAck, acks}
use Rattle.sg_standing.specs.declared.source.Source.{Source}

-- the first entries that wait at a destination
abbrev pub entries_at : List SinkState → ℕ → ℕ → List Entry
entries_at sinks d n = option_map_or (λ (sink : SinkState). take n sink.entries) (slice_get sinks d)
    []

-- so many wait there
abbrev pub HasWaiting : Option SinkState → ℕ → Type 0
HasWaiting None n = ⊥
HasWaiting (Some sink) n = n ≤ length sink.entries

-- the lengths of those on its disk
abbrev pub lengths_at : List SinkState → ℕ → List ℕ
lengths_at sinks d = option_map_or (λ (sink : SinkState). sink.lengths) (slice_get sinks d) []

-- so many are left there, on the disk or not
abbrev pub HasLeft : Option SinkState → ℕ → Type 0
HasLeft None n = ⊥
HasLeft (Some sink) n = n ≤ length sink.lengths + length sink.entries

-- of the first n that are left those that wait
abbrev pub settling_at : List SinkState → ℕ → ℕ → List Entry
settling_at sinks d n =
    option_map_or (λ (sink : SinkState). take (n - length sink.lengths) sink.entries)
    (slice_get sinks d) []

-- each can be acknowledged, one after another
abbrev pub CanAckAll : List Source → List Entry → Type 0
CanAckAll sources [] = Unit {0}
CanAckAll sources (e ∷ es) = (e.flow ≡ true → CanAck (slice_get sources e.inlet) e.number)
    × CanAckAll (acks sources e) es

-- the first n that wait are settled
abbrev pub settled_waiting_some : ℕ → SinkState → SinkState
settled_waiting_some n sink = record sink {
  taken = sink.taken + n;
  entries = drop n sink.entries;
  blocks = drop n sink.blocks;
}

-- or stand on the disk
abbrev pub moved_some : ℕ → SinkState → SinkState
moved_some n sink =
    record sink {
      lengths = sink.lengths ++ map (λ (e : Entry). encoded_len e.message) (take n sink.entries);
      entries = drop n sink.entries;
      blocks = drop n sink.blocks;
    }

-- the first n of these fit, each behind the ones before, where so much is taken
abbrev pub FitSome : ℕ → ℕ → ℕ → List Entry → Type 0
FitSome zero capacity used es = Unit {0}
FitSome (suc n) capacity used [] = ⊥
FitSome (suc n) capacity used (e ∷ es) = (has_space capacity used (encoded_len e.message) ≡ true)
    × FitSome n capacity (used + (5 + encoded_len e.message)) es

abbrev pub CanMove : BufferSetup → Option SinkState → ℕ → Type 0
CanMove buffer None n = ⊥
CanMove buffer (Some sink) n = (sink.setup.buffer ≡ Some buffer)
    × FitSome n buffer.capacity (space sink.lengths) sink.entries
