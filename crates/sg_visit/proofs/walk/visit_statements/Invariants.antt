use Rattle.std.proofs.Common.{take}
use Rattle.std.specs.List.{flat_map}
use Rattle.sg_visit.specs.Leaves.{statement_leaves}
use Rattle.sg_visit.specs.Visits.{Visits}
use Rattle.sg_visit.proofs.walk.visit_statements.Given as goal

abbrev pub invariant-loop-statement : goal.invariant-loop-statement
invariant-loop-statement g l = Visits (g.V.Visit.step l.visitor) (flat_map statement_leaves (take l.statement-index l.statements)) l.initial.state l.state
