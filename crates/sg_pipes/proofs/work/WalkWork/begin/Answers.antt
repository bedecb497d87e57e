use Rattle.std.proofs.Common.{refl, ap, ◌∙◌}
use Rattle.sg_pipes.specs.declared.frame.SiblingTrial.{SiblingTrial}
use Rattle.sg_pipes.specs.declared.frame.WalkFrame.TheVariants.{Try}
use Rattle.sg_pipes.specs.Frames.{from, does}
use Rattle.sg_pipes.specs.Turns.{now}
use Rattle.sg_pipes.proofs.Running.{comes-pushed, comes-as}
use Rattle.sg_pipes.proofs.Steps.{begin-is}
use Rattle.sg_pipes.proofs.work.WalkWork.begin.Goals as goal

pub returns : goal.returns
returns c = λ pipes.
    let old = c.args.self.now in
    let trial = c.first_trial.result in
    let first = c.first_trial.ensures in
    comes-as pipes _ _ _ _
    (ap (λ (t : SiblingTrial). does pipes old.offered.items (Try t) (now old)) first.0
    ∙ begin-is old.offers.items trial.left (from pipes old.offered.items c.args.group 0) c.args.message c.args.flow first.1 first.2)
    (comes-pushed pipes _ _ (Try trial) refl c.in_ok-push.ensures.items)
