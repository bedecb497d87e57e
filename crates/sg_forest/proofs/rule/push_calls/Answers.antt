use Rattle.sg_forest.specs.Steps.{call_steps}
use Rattle.sg_forest.specs.Patterns.{call_patterns}
use Rattle.sg_forest.proofs.Adding.{adds-more, adds-all}
use Rattle.sg_forest.proofs.rule.push_calls.Goals as goal

pub loop-call-preserved : goal.loop-call-preserved
loop-call-preserved c = λ named.
    adds-more named (call_steps c.args.names.now named) (call_patterns c.args.names.now named) c.args.calls.now c.loop-call.call-index c.call-item.result c.args.elements.now.items c.loop-call.elements.items
    c.push_call.new.elements.items c.loop-call-test.true c.call-item.is (c.loop-call.invariant named) (c.in_ok-push_call.ensures named)

pub returns : goal.returns
returns c = λ named.
    adds-all named (call_steps c.args.names.now named) (call_patterns c.args.names.now named) c.args.calls.now c.loop-call.call-index c.args.elements.now.items c.loop-call.elements.items c.loop-call-test.false
    (c.loop-call.invariant named)
