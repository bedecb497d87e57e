use Rattle.sg_msg.proofs.KeptTags.{distinct-with}
use Rattle.sg_msg.proofs.builder.MessageBuilder.set_tag.Goals as goal

-- the tags with one more are distinct
pub invariant_of-self-2 : goal.invariant_of-self-2
invariant_of-self-2 c =
    (c.self.invariant.0, c.self.invariant.1, c.self.invariant.2, c.self.invariant.3, rw c.in_ok-set.ensures.ok (distinct-with c.args.tag.now c.self.inside.tags c.self.invariant.4), c.self.invariant.5)
