use Rattle.std.proofs.Common.{◌≡◌, take, map}
use Rattle.sg_core.specs.Tallying.{source_tally_of}
use Rattle.sg_core.proofs.tallies.tally_sources.Given as goal

abbrev pub invariant-loop-source : goal.invariant-loop-source
invariant-loop-source g l = l.tallies.items ≡ map (source_tally_of l.stores) (take l.source-index l.sources)
