use Rattle.sg_msg.proofs.KeptPairs.{message-with}
use Rattle.sg_msg.proofs.ValueLaws.{value-with, value-with-other}
use Rattle.sg_msg.proofs.message.Message.put.Goals as goal

-- the pairs with one more are a message's
pub invariant_of-self-2 : goal.invariant_of-self-2
invariant_of-self-2 c = rw c.in_ok-put.ensures.ok (message-with c.args.name.now _ _ c.requires c.self.invariant)

pub returns-clause-value : goal.returns-clause-value
returns-clause-value c = rw (c.in_ok-put.ensures.ok) (value-with c.args.name.now c.args.value c.self.inside.pairs)

pub returns-clause-others : goal.returns-clause-others
returns-clause-others c other differs =
    rw (c.in_ok-put.ensures.ok, ← c.self.view_is) (value-with-other c.args.name.now _ other differs c.self.inside.pairs)
