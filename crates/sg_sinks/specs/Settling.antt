-- Entries of a destination that are settled.
use Rattle.std.specs.Prelude.{ℕ, ◌+◌, ◌-◌, drop, length}
use Rattle.sg_sinks.specs.States.{SinkState}

-- the first n on its disk are settled
abbrev pub settled_spooled : ℕ → SinkState → SinkState
settled_spooled n sink = record sink { taken = sink.taken + n; lengths = drop n sink.lengths }

-- the first one that waits is settled
abbrev pub settled_waiting : SinkState → SinkState
settled_waiting sink = record sink {
  taken = sink.taken + 1;
  entries = drop 1 sink.entries;
  blocks = drop 1 sink.blocks;
}

-- the first n of all, those on its disk before those that wait
abbrev pub settled_first : ℕ → SinkState → SinkState
settled_first n sink =
    let waiting = n - length sink.lengths in
    record sink {
      taken = sink.taken + n;
      lengths = drop n sink.lengths;
      entries = drop waiting sink.entries;
      blocks = drop waiting sink.blocks;
    }
