use Rattle.std.proofs.Common.{map, []}
use Rattle.sg_forest.proofs.Whole.{tops-more}
use Rattle.sg_forest.proofs.statement.tops_of.Goals as goal

pub loop-statement-preserved : goal.loop-statement-preserved
loop-statement-preserved c =
    tops-more c.args.names.now c.args.ends.now (map (λ calls. calls.now) c.args.rewrites.now) c.args.statements.now c.loop-statement.statement-index c.statement-item.result [] c.loop-statement.found.items
    c.push_top.new.found.items c.loop-statement-test.true c.statement-item.is c.loop-statement.invariant c.in_ok-push_top.ensures
