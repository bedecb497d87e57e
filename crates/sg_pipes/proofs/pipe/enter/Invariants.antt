use Rattle.std.proofs.Common.{◌≡◌, Bool}
use Rattle.sg_tree.specs.Walk.{walk}
use Rattle.sg_table.specs.Table.{steps_at}
use Rattle.sg_pipes.proofs.pipe.enter.Given as goal

abbrev pub invariant-loop : goal.invariant-loop
invariant-loop l =
    ((flow : Bool) → walk (steps_at l.initial.pipes.items l.at) l.message flow ≡ walk (steps_at l.initial.pipes.items l.start) l.message flow)
    × (l.pipes.items ≡ l.initial.pipes.items)
