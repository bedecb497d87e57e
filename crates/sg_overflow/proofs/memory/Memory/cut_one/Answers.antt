use Rattle.sg_overflow.proofs.Sizes.{cut_size}
use Rattle.sg_overflow.proofs.memory.Memory.cut_one.Goals as goal

pub overflow_sub-self : goal.overflow_sub-self
overflow_sub-self c = (cut_size c.self.inside.frames.items c.pop_back.new.self.items c.in-Some.frame c.bytes.result.now c.self.inside.size c.in-Some.ensures.items c.self.invariant c.bytes.ensures).0

pub invariant_of-self : goal.invariant_of-self
invariant_of-self c = (cut_size c.self.inside.frames.items c.pop_back.new.self.items c.in-Some.frame c.bytes.result.now c.self.inside.size c.in-Some.ensures.items c.self.invariant c.bytes.ensures).1
