use Rattle.std.proofs.Common.{◌≡◌, ◌∷◌, ◌++◌, ◌∙◌, [], ap, arith}
use Rattle.sg_overflow.specs.Memory.{size_of}
use Rattle.sg_overflow.proofs.Sizes.{size_append}
use Rattle.sg_overflow.proofs.memory.Memory.push.Goals as goal

pub invariant_of-self-2 : goal.invariant_of-self-2
invariant_of-self-2 c =
    let items : c.push_back_reserved.new.self.items ≡ c.self.inside.frames.items ++ c.args.frame.now ∷ [] =
    c.push_back_reserved.ensures.items ∙ (λ i. c.reserve.ensures.items i ++ c.in_ok-copy.ensures i ∷ []) in
    let more = ap size_of items ∙ size_append c.self.inside.frames.items (c.args.frame.now ∷ []) in
    let was = c.self.invariant in
    omega (arith, more, was)
