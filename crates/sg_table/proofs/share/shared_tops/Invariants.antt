use Rattle.std.proofs.Common.{◌≡◌, map, take}
use Rattle.sg_table.specs.Forest.{statement_at}
use Rattle.sg_table.specs.Table.{StepsByPlace}
use Rattle.sg_table.proofs.share.shared_tops.Given as goal

abbrev pub invariant-loop-top : goal.invariant-loop-top
invariant-loop-top l = (at : StepsByPlace) → map (statement_at at) l.copies.items ≡ map (statement_at at) (take l.top-index l.tops)
