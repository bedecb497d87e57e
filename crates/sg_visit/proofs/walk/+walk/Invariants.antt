use Rattle.std.proofs.Common.{take}
use Rattle.std.specs.List.{flat_map}
use Rattle.sg_visit.specs.Leaves.{element_leaves, branch_leaves, log_leaves}
use Rattle.sg_visit.specs.Visits.{Visits}
use Rattle.sg_visit.proofs.walk.+walk.Given as goal

abbrev pub invariant-visit_elements-loop-element : goal.invariant-visit_elements-loop-element
invariant-visit_elements-loop-element g l = Visits (g.V.Visit.step l.visitor) (flat_map element_leaves (take l.element-index l.elements)) l.initial.state l.state

abbrev pub invariant-visit_branches-loop-branch : goal.invariant-visit_branches-loop-branch
invariant-visit_branches-loop-branch g l = Visits (g.V.Visit.step l.visitor) (flat_map branch_leaves (take l.branch-index l.branches)) l.initial.state l.state

abbrev pub invariant-visit_logs-loop-log : goal.invariant-visit_logs-loop-log
invariant-visit_logs-loop-log g l = Visits (g.V.Visit.step l.visitor) (flat_map log_leaves (take l.log-index l.logs)) l.initial.state l.state
