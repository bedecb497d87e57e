use Rattle.std.proofs.Common.{sym, ap, ◌∙◌}
use Rattle.sg_pipes.specs.declared.frame.WalkFrame.{WalkFrame}
use Rattle.sg_pipes.specs.Frames.{does}
use Rattle.sg_pipes.specs.Turns.{now}
use Rattle.sg_pipes.proofs.Running.{comes-as}
use Rattle.sg_pipes.proofs.Steps.{out-is}
use Rattle.sg_pipes.proofs.work.WalkWork.turn.Goals as goal

pub returns-in-Out-clause-turns : goal.returns-in-Out-clause-turns
returns-in-Out-clause-turns c =
    let all = c.args.pipes.now.items in
    let old = c.args.self.now in
    comes-as all _ _ _ _ (out-is old.offers.items c.in-Out.message ∙ ap (λ (one : WalkFrame). does all old.offered.items one (now old)) (sym c.in-Out.is)) (c.leave.ensures all)
