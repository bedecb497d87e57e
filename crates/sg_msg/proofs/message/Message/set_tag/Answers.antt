use Rattle.sg_msg.proofs.KeptTags.{message-with_tag}
use Rattle.sg_msg.proofs.message.Message.set_tag.Goals as goal

-- the tags with one more are a message's
pub invariant_of-self-2 : goal.invariant_of-self-2
invariant_of-self-2 c = rw c.in_ok-set.ensures.ok (message-with_tag c.args.tag.now _ c.self.invariant)
