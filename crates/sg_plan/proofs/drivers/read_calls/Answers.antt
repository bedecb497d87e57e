use Rattle.sg_parse_expr.specs.declared.tree.Call.{Call}
use Rattle.sg_plan.specs.Owned.{owner_at}
use Rattle.sg_plan.proofs.Joining.{reads-one, reads-ones}
use Rattle.sg_plan.proofs.drivers.read_calls.Goals as goal

pub loop-call-preserved : goal.loop-call-preserved
loop-call-preserved c =
    reads-one c.args.globals.now (λ (call : Call). (owner_at c.args.inline c.args.name.now, (c.args.side, call))) c.args.found.now.items c.loop-call.found.items c.read_driver.new.found.items c.args.calls.now _ _ c.loop-call-test.true c.call-item.is c.loop-call.invariant c.in_ok-read_driver.ensures

pub returns : goal.returns
returns c = reads-ones c.args.globals.now (λ (call : Call). (owner_at c.args.inline c.args.name.now, (c.args.side, call))) _ _ _ _ c.loop-call-test.false c.loop-call.invariant
