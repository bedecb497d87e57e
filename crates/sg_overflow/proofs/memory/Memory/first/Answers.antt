use Rattle.std.proofs.Common.{◌∙◌, ◌∷◌, ◌++◌, [], ℕ, List, ap, sym}
use Rattle.sg_overflow.proofs.Sizes.{take_one}
use Rattle.sg_overflow.proofs.memory.Memory.first.Goals as goal

pub loop-place-preserved : goal.loop-place-preserved
loop-place-preserved c =
    c.in_ok-push.ensures.ok ∙ ap (λ (fs : List (List ℕ)). fs ++ c.in-Some.frame.now ∷ []) c.loop-place.invariant
    ∙ sym (take_one c.args.self.now c.loop-place.place c.in-Some.frame.now c.in-Some.ensures)
