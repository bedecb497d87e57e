use Rattle.std.proofs.Common.{◌≡◌}
use Rattle.sg_filter.specs.Decisions.{decides}
use Rattle.sg_filter.specs.Table.{decision_at}
use Rattle.sg_filter.proofs.node.decided.Given as goal

abbrev pub invariant-asks : goal.invariant-asks
invariant-asks l = (l.nodes ≡ l.initial.nodes) × (decides (decision_at l.nodes l.at) l.message ≡ decides (decision_at l.initial.nodes l.initial.at) l.message)

abbrev pub decreases-asks : goal.decreases-asks
decreases-asks l = l.at
