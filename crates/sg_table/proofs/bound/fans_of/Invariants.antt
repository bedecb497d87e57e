use Rattle.std.proofs.Common.{◌≡◌, [], map, take}
use Rattle.sg_table.specs.Fans.{fan}
use Rattle.sg_table.specs.Table.{read}
use Rattle.sg_table.proofs.bound.fans_of.Given as goal

abbrev pub invariant-loop-pipe : goal.invariant-loop-pipe
invariant-loop-pipe l = l.fans.items ≡ map fan (read [] (take l.pipe-index l.pipes))
