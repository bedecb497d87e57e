use Rattle.std.proofs.Common.{◌≡◌, drop}
use Rattle.sg_pipes.specs.Named.{pipes_name_there}
use Rattle.sg_pipes.proofs.within.pipes_name_there.Given as goal

abbrev pub invariant-loop-pipe : goal.invariant-loop-pipe
invariant-loop-pipe l = pipes_name_there l.dests l.pipes ≡ pipes_name_there l.dests (drop l.pipe-index l.pipes)
