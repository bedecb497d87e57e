use Rattle.std.proofs.Common.{refl}
use Rattle.sg_forest.specs.Steps.{parser_steps}
use Rattle.sg_forest.proofs.Adding.{adds-start, adds-more, adds-all, adds-same}
use Rattle.sg_forest.proofs.Parsers.{no_patterns, joined-none}
use Rattle.sg_forest.proofs.rule.push_parsers.Goals as goal

pub loop-call-init : goal.loop-call-init
loop-call-init c = λ named. adds-start named parser_steps no_patterns c.args.calls.now c.args.elements.now.items

pub loop-call-preserved : goal.loop-call-preserved
loop-call-preserved c = λ named.
    adds-more named parser_steps no_patterns c.args.calls.now c.loop-call.call-index c.call-item.result c.args.elements.now.items c.loop-call.elements.items c.push_parser.new.elements.items c.loop-call-test.true
    c.call-item.is (c.loop-call.invariant named) (c.in_ok-push_parser.ensures named)

pub returns : goal.returns
returns c = λ named.
    let all = adds-all named parser_steps no_patterns c.args.calls.now c.loop-call.call-index c.args.elements.now.items c.loop-call.elements.items c.loop-call-test.false (c.loop-call.invariant named) in
    adds-same named _ _ _ _ _ _ refl (joined-none c.args.calls.now) all
