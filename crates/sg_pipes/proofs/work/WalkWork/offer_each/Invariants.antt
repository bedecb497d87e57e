use Rattle.std.proofs.Common.{◌≡◌, ◌-◌, drop, length}
use Rattle.sg_pipes.specs.Turns.{DeliversWith, behind}
use Rattle.sg_pipes.proofs.work.WalkWork.offer_each.Given as goal

abbrev pub invariant-loop-branch : goal.invariant-loop-branch
invariant-loop-branch l =
    let offered = l.initial.self.offered.items in
    DeliversWith l.initial.pipes.items l.message l.flow l.initial.self offered l.self (behind l.waiting (drop l.index offered)) × (l.pipes.items ≡ l.initial.pipes.items)

abbrev pub decreases-loop-branch : goal.decreases-loop-branch
decreases-loop-branch l = length l.self.offered.items - l.index
