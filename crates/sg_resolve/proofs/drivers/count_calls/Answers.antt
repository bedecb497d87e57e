use Rattle.sg_parse_expr.specs.declared.tree.Call.{Call}
use Rattle.sg_resolve.specs.Drivers.{with_driver}
use Rattle.sg_resolve.proofs.Counting.{folds-one, folds-ones}
use Rattle.sg_resolve.proofs.drivers.count_calls.Goals as goal

pub loop-call-preserved : goal.loop-call-preserved
loop-call-preserved c =
    folds-one (with_driver c.args.texts.now) (λ (call : Call). (c.args.side, call)) c.args.count.now c.loop-call.count c.count_driver.new.count c.args.calls.now _ _ c.loop-call-test.true c.call-item.is c.loop-call.invariant c.in_ok-count_driver.ensures

pub returns : goal.returns
returns c = folds-ones (with_driver c.args.texts.now) (λ (call : Call). (c.args.side, call)) _ _ _ _ c.loop-call-test.false c.loop-call.invariant
