use Rattle.std.proofs.Common.{◌≡◌, map, take}
use Rattle.sg_run.proofs.planning.drivers_of.Given as goal

abbrev pub invariant-loop-inlet : goal.invariant-loop-inlet
invariant-loop-inlet l = l.drivers ≡ map (λ inlet. inlet.driver) (take l.inlet-index l.inlets)
