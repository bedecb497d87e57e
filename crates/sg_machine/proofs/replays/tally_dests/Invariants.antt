use Rattle.std.proofs.Common.{◌≡◌, take, map}
use Rattle.sg_machine.specs.Fresh.{dest_sum}
use Rattle.sg_machine.proofs.replays.tally_dests.Given as goal

abbrev pub invariant-loop-dest : goal.invariant-loop-dest
invariant-loop-dest l = l.tallies.items ≡ map dest_sum (take l.dest-index l.dests)
