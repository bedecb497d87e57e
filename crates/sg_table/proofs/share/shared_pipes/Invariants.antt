use Rattle.std.proofs.Common.{take}
use Rattle.sg_table.specs.Shared.{AreSame}
use Rattle.sg_table.proofs.share.shared_pipes.Given as goal

abbrev pub invariant-loop-pipe : goal.invariant-loop-pipe
invariant-loop-pipe l = AreSame (take l.pipe-index l.pipes) l.copies.items
