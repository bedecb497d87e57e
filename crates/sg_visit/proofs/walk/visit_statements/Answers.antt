use Rattle.std.proofs.Common.{refl}
use Rattle.sg_visit.specs.Leaves.{statement_leaves, leaves_of}
use Rattle.sg_visit.proofs.Visiting.{visits-more, visits-all}
use Rattle.sg_visit.proofs.walk.visit_statements.Goals as goal

pub loop-statement-init : goal.loop-statement-init
loop-statement-init g c = refl

pub loop-statement-preserved : goal.loop-statement-preserved
loop-statement-preserved g c =
    visits-more (g.V.Visit.step c.args.visitor.now) statement_leaves c.args.statements.now _ _ c.args.state.now c.loop-statement.state c.visit_statement.new.state c.loop-statement-test.true c.statement-item.is c.loop-statement.invariant c.in_ok-visit_statement.ensures

pub returns : goal.returns
unfolding leaves_of
returns g c = visits-all (g.V.Visit.step c.args.visitor.now) statement_leaves _ _ _ _ c.loop-statement-test.false c.loop-statement.invariant
