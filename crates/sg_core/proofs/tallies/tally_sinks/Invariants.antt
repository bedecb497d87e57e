use Rattle.std.proofs.Common.{◌≡◌, take, map}
use Rattle.sg_offers.specs.Rooms.{seen_in}
use Rattle.sg_core.specs.Tallying.{sink_tally_of}
use Rattle.sg_core.proofs.tallies.tally_sinks.Given as goal

abbrev pub invariant-loop-sink : goal.invariant-loop-sink
invariant-loop-sink l = l.tallies.items ≡ map sink_tally_of (seen_in (take l.sink-index l.sinks))
