use Rattle.std.proofs.Common.{◌≤◌, ◌-◌}
use Rattle.sg_pattern.proofs.making.make_as.Given as goal

abbrev pub invariant-limits : goal.invariant-limits
invariant-limits l = (2560 ≤ l.limit) × (l.limit ≤ 10485760)

abbrev pub decreases-limits : goal.decreases-limits
decreases-limits l = 10485760 - l.limit
