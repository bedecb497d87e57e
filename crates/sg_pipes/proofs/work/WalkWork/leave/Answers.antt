use Rattle.std.proofs.Common.{true, refl}
use Rattle.sg_pipes.proofs.Running.{comes-now, comes-as}
use Rattle.sg_pipes.proofs.Steps.{left-is}
use Rattle.sg_pipes.proofs.work.WalkWork.leave.Goals as goal

pub returns : goal.returns
returns c = λ pipes.
    comes-as pipes _ _ _ _ (left-is c.args.self.now.offers.items _ _ true true refl refl)
    (comes-now pipes _ _ refl refl)
