use Rattle.std.proofs.Common.{◌≡◌}
use Rattle.std.specs.Prelude.{reverse}
use Rattle.sg_pipes.specs.Frames.{run}
use Rattle.sg_pipes.specs.Turns.{now}
use Rattle.sg_pipes.proofs.work.WalkWork.work.Given as goal

abbrev pub invariant-turns : goal.invariant-turns
invariant-turns l =
    let pipes = l.initial.pipes.items in
    (run pipes l.initial.self.offered.items (reverse l.initial.self.frames.items) (now l.initial.self) ≡ run pipes l.self.offered.items (reverse l.self.frames.items) (now l.self))
    × (l.pipes.items ≡ pipes) × (l.self.offered ≡ l.initial.self.offered)
