use Rattle.std.proofs.Common.{◌∷◌, [], ap, sym}
use Rattle.sg_parse_text.specs.declared.statement.Statement.TheVariants as statement
use Rattle.sg_visit.specs.Leaves.{Leaf, statement_leaves}
use Rattle.sg_visit.proofs.Visiting.{visits-one, visits-same}
use Rattle.sg_visit.proofs.walk.visit_statement.Goals as goal

pub returns-in_ok-object-in-Object : goal.returns-in_ok-object-in-Object
returns-in_ok-object-in-Object g c =
    visits-one (g.V.Visit.step c.args.visitor.now) (Leaf.object c.in-Object.object) _ _ _ c.in_ok-object-in-Object.ensures (sym (ap statement_leaves c.in-Object.is))

pub returns-in_ok-visit_log-in-Log : goal.returns-in_ok-visit_log-in-Log
returns-in_ok-visit_log-in-Log g c =
    visits-same (g.V.Visit.step c.args.visitor.now) _ _ _ _ c.in_ok-visit_log-in-Log.ensures (sym (ap statement_leaves c.in-Log.is))
