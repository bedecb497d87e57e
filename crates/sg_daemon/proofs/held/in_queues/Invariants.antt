use Rattle.std.proofs.Common.{◌≡◌, drop}
use Rattle.sg_daemon.specs.Held.{in_queues}
use Rattle.sg_daemon.proofs.held.in_queues.Given as goal

abbrev pub invariant-loop-dest : goal.invariant-loop-dest
invariant-loop-dest l = in_queues l.sum (drop l.dest-index l.dests) ≡ in_queues 0 l.dests
