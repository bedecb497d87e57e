use Rattle.std.proofs.Common.{◌≡◌, map, take}
use Rattle.sg_tree.specs.Readings.{inlet_of}
use Rattle.sg_table.proofs.copying.copied_inlets.Given as goal

abbrev pub invariant-loop-rule : goal.invariant-loop-rule
invariant-loop-rule l = map inlet_of l.copies.items ≡ map inlet_of (take l.rule-index l.rules)
