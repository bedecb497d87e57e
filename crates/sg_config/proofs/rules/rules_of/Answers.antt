use Rattle.std.proofs.Common.{◌∙◌, ap, ◌++◌, map}
use Rattle.sg_tree.specs.Readings.{inlet_of}
use Rattle.sg_config.specs.Readings.{readings_at}
use Rattle.sg_config.proofs.Ruling.{one-more, all-read}
use Rattle.sg_config.proofs.rules.rules_of.Goals as goal

pub loop-inlet-preserved : goal.loop-inlet-preserved
loop-inlet-preserved c =
    one-more c.args.drivers.now c.args.inlets.now c.loop-inlet.rules.items c.add_rule.new.rules.items _ _ c.loop-inlet-test.true c.inlet-item.is c.loop-inlet.invariant
    (c.in_ok-add_rule.ensures ∙ ap (λ d. map inlet_of c.loop-inlet.rules.items ++ readings_at d) c.driver_at.ensures)

pub returns : goal.returns
returns c = all-read c.args.drivers.now c.args.inlets.now _ _ c.loop-inlet-test.false c.loop-inlet.invariant
