use Rattle.std.proofs.Common.{refl}
use Rattle.sg_pipes.specs.declared.frame.WalkFrame.TheVariants.{Walk}
use Rattle.sg_pipes.proofs.Running.{comes-pushed}
use Rattle.sg_pipes.proofs.work.WalkWork.go.Goals as goal

pub returns : goal.returns
returns c = λ pipes. comes-pushed pipes _ _ (Walk c.args.at c.args.message c.args.flow) refl c.in_ok-push.ensures.items
