use Rattle.std.proofs.Common.{◌≡◌, map, take}
use Rattle.sg_tree.specs.Readings.{inlet_of}
use Rattle.sg_config.specs.Readings.{readings_of}
use Rattle.sg_config.proofs.rules.rules_of.Given as goal

abbrev pub invariant-loop-inlet : goal.invariant-loop-inlet
invariant-loop-inlet l = map inlet_of l.rules.items ≡ readings_of l.drivers (take l.inlet-index l.inlets)
