use Rattle.std.proofs.Common.{◌≡◌, drop}
use Rattle.sg_daemon.specs.Held.{held_back}
use Rattle.sg_daemon.proofs.held.held_back.Given as goal

abbrev pub invariant-loop-outlet : goal.invariant-loop-outlet
invariant-loop-outlet l = held_back l.sum (drop l.outlet-index l.outlets) ≡ held_back 0 l.outlets
