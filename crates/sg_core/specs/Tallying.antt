-- The tallies of the parts of a core.
use Rattle.std.specs.Prelude.{◌≡◌, ◌+◌, List, [], ◌∷◌, length, option_map}
use Rattle.sg_machine.specs.declared.tally.SourceTally.{SourceTally}
use Rattle.sg_machine.specs.declared.tally.DestTally.{DestTally}
use Rattle.sg_sinks.specs.States.{SinkState}
use Rattle.sg_stores.specs.Stores.{StoreState}
use Rattle.sg_stores.specs.Positions.{IsStoreThere, stored_in}
use Rattle.sg_standing.specs.Sources.{mark_at}
use Rattle.sg_standing.specs.declared.source.Source.{Source}

-- the window has the number of records that the setup says, and the store is there
pub record IsFit (stores : List StoreState) (source : Source) : Type 0 where
  pub limit : source.tracker.limit ≡ source.setup.window
  pub store : IsStoreThere stores source.setup.store

abbrev pub AreFit : List StoreState → List Source → Type 0
AreFit stores [] = Unit {0}
AreFit stores (source ∷ sources) = IsFit stores source × AreFit stores sources

abbrev pub source_tally_of : List StoreState → Source → SourceTally
source_tally_of stores source = record {
  records = source.tracker.begun;
  mark = mark_at source;
  stored = option_map (λ _. stored_in stores source.setup.store) source.setup.store;
}

abbrev pub sink_tally_of : SinkState → DestTally
sink_tally_of sink = record {
  taken = sink.taken;
  dropped_full = sink.dropped_full;
  dropped_disk = sink.dropped_disk;
  left = length sink.lengths + length sink.entries;
}
