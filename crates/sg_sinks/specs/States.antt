-- What the core keeps of a destination.
use Rattle.std.specs.Prelude.{ℕ, Bool, true, false, Option, List, [], ◌∷◌, ◌++◌}
use Rattle.sg_machine.specs.declared.setup.DestSetup.{DestSetup}
use Rattle.sg_queue.specs.declared.entry.Entry.{Entry}

-- how many entries it has taken; of those left the lengths of the ones on its disk, and the ones that wait, each with its
-- payload where it has one; whether the store of its disk-buffer has failed; the dropped offers by cause
pub record SinkState : Type 0 where
  pub setup : DestSetup
  pub taken : ℕ
  pub lengths : List ℕ
  pub entries : List Entry
  pub blocks : List (Option (List ℕ))
  pub broken : Bool
  pub dropped_full : ℕ
  pub dropped_disk : ℕ

-- that, and for how many offers more there is memory
pub record Sunk : Type 0 where
  pub seen : SinkState
  pub room : ℕ

-- a destination of no entries
abbrev pub fresh_sink : DestSetup → SinkState
fresh_sink setup = record {
  setup = setup;
  taken = 0;
  lengths = [];
  entries = [];
  blocks = [];
  broken = false;
  dropped_full = 0;
  dropped_disk = 0;
}

-- with one more entry on its disk, of this length
abbrev pub recovered : ℕ → SinkState → SinkState
recovered n sink = record sink { lengths = sink.lengths ++ n ∷ [] }

abbrev pub with_broken : SinkState → SinkState
with_broken sink = record sink { broken = true }
