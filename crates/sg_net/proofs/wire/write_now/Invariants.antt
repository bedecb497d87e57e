use Rattle.std.proofs.Common.{◌≤◌}
use Rattle.sg_net.proofs.wire.write_now.Given as goal

abbrev pub invariant-loop : goal.invariant-loop
invariant-loop l = l.count ≤ l.end
