use Rattle.std.proofs.Common.{◌≡◌, drop}
use Rattle.sg_pipes.specs.Named.{are_there}
use Rattle.sg_pipes.proofs.within.are_there.Given as goal

abbrev pub invariant-loop-driver : goal.invariant-loop-driver
invariant-loop-driver l = are_there l.dests l.drivers ≡ are_there l.dests (drop l.driver-index l.drivers)
