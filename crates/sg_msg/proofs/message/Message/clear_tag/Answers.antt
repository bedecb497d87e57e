use Rattle.sg_msg.proofs.KeptTags.{message-without_tag}
use Rattle.sg_msg.proofs.message.Message.clear_tag.Goals as goal

-- the tags with one less are a message's
pub invariant_of-self-2 : goal.invariant_of-self-2
invariant_of-self-2 c = rw c.in_ok-clear.ensures.ok (message-without_tag c.args.tag.now _ c.self.invariant)
