use Rattle.std.proofs.Common.{◌≡◌, List, map, drop}
use Rattle.sg_tree.specs.Bounds.{reach_all}
use Rattle.sg_tree.specs.Walk.{Steps}
use Rattle.sg_table.specs.Fans.{cut_reach, fan}
use Rattle.sg_table.specs.Table.{branches_at, place, siblings_of}
use Rattle.sg_table.proofs.fan.branches_fan.Given as goal

abbrev pub invariant-loop-i : goal.invariant-loop-i
invariant-loop-i l = (steps : List Steps) → l.fans ≡ map fan steps → l.all ≡ cut_reach (reach_all (siblings_of (branches_at (place steps) (drop l.i l.branches))) 1)
