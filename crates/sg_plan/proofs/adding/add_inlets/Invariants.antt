use Rattle.std.proofs.Common.{◌≡◌, ◌++◌, map}
use Rattle.std.specs.List.{range_with_len}
use Rattle.sg_source.specs.Inlets.{plan_of}
use Rattle.sg_plan.specs.Parts.{name_in}
use Rattle.sg_plan.proofs.adding.add_inlets.Given as goal

abbrev pub invariant-loop-slot : goal.invariant-loop-slot
invariant-loop-slot l = l.inlets.items ≡ l.initial.inlets.items ++ map (λ slot. plan_of l.source slot l.number (name_in l.owner)) (range_with_len 0 l.slot)
