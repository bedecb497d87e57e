use Rattle.sg_graph.proofs.Visiting.{visits-more}
use Rattle.sg_graph.proofs.search.visit.Goals as goal

pub loop-node-preserved : goal.loop-node-preserved
loop-node-preserved c =
    visits-more _ _ _ _ _ _ _ _ c.loop-node-test.true c.loop-node.invariant c.in_ok-visit_one.ensures
