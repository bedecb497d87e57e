use Rattle.std.proofs.Common.{◌≡◌, ◌-◌, length}
use Rattle.sg_pipes.specs.Frames.{group_of}
use Rattle.sg_pipes.proofs.Picking.{IsAhead}
use Rattle.sg_pipes.proofs.work.pick.Given as goal

abbrev pub invariant-loop-branch : goal.invariant-loop-branch
invariant-loop-branch l = IsAhead l.initial.pipes.items l.offered l.initial.trial l.trial × (l.pipes.items ≡ l.initial.pipes.items)

abbrev pub decreases-loop-branch : goal.decreases-loop-branch
decreases-loop-branch l = length (group_of l.offered l.pipes.items l.trial.group) - l.trial.index
