use Rattle.std.proofs.Common.{◌≡◌}
use Rattle.sg_pipes.specs.declared.frame.WalkFrame.TheVariants.{Walk}
use Rattle.sg_pipes.specs.Frames.{does}
use Rattle.sg_pipes.specs.Turns.{now}
use Rattle.sg_pipes.proofs.work.WalkWork.walk.Given as goal

abbrev pub invariant-elements : goal.invariant-elements
invariant-elements l =
    let pipes = l.initial.pipes.items in
    let old = l.initial.self in
    (does pipes old.offered.items (Walk l.at l.message l.flow) (now l.self) ≡ does pipes old.offered.items (Walk l.start l.fn.given l.flow) (now old))
    × (l.pipes.items ≡ pipes) × (l.self.frames ≡ old.frames) × (l.self.offered ≡ old.offered)
