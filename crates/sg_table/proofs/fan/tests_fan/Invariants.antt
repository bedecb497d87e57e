use Rattle.std.proofs.Common.{◌≡◌, List, map, drop}
use Rattle.sg_tree.specs.Bounds.{reach_each}
use Rattle.sg_tree.specs.Walk.{Steps}
use Rattle.sg_table.specs.Fans.{cut_reach, fan}
use Rattle.sg_table.specs.Table.{choice_of, other_at, place, tests_at}
use Rattle.sg_table.proofs.fan.tests_fan.Given as goal

abbrev pub invariant-loop-i : goal.invariant-loop-i
invariant-loop-i l = (steps : List Steps) → l.fans ≡ map fan steps → l.all ≡ cut_reach (reach_each (choice_of (tests_at (place steps) (drop l.i l.tests)) (other_at (place steps) l.fn.other)) 1)
