use Rattle.std.proofs.Common.{◌≡◌, drop}
use Rattle.sg_daemon.specs.Held.{largest}
use Rattle.sg_daemon.proofs.held.largest.Given as goal

abbrev pub invariant-loop-inlet : goal.invariant-loop-inlet
invariant-loop-inlet l = largest l.most (drop l.inlet-index l.inlets) ≡ largest 0 l.inlets
