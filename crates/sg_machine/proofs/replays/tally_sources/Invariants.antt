use Rattle.std.proofs.Common.{◌≡◌, take, map}
use Rattle.sg_machine.specs.Fresh.{source_sum}
use Rattle.sg_machine.proofs.replays.tally_sources.Given as goal

abbrev pub invariant-loop-source : goal.invariant-loop-source
invariant-loop-source l = l.tallies.items ≡ map source_sum (take l.source-index l.sources)
