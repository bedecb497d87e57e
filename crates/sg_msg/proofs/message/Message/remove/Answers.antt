use Rattle.sg_msg.proofs.KeptPairs.{message-without}
use Rattle.sg_msg.proofs.ValueLaws.{value-without, value-without-other}
use Rattle.sg_msg.proofs.message.Message.remove.Goals as goal

-- the pairs with one less are a message's
pub invariant_of-self-2 : goal.invariant_of-self-2
invariant_of-self-2 c = rw c.in_ok-unset.ensures.ok (message-without c.args.name.now _ c.self.invariant)

pub returns-clause-value : goal.returns-clause-value
returns-clause-value c = rw c.in_ok-unset.ensures.ok (value-without c.args.name.now c.self.inside.pairs c.self.invariant.ascending)

pub returns-clause-others : goal.returns-clause-others
returns-clause-others c other differs =
    rw (c.in_ok-unset.ensures.ok, ← c.self.view_is) (value-without-other c.args.name.now other differs c.self.inside.pairs)
