use Rattle.std.proofs.Common.{sym, ◌∙◌}
use Rattle.sg_msg.proofs.KeptPairs.{message-with}
use Rattle.sg_msg.proofs.ValueLaws.{value-with, value-with-other}
use Rattle.sg_msg.proofs.message.Message.set_bytes.Goals as goal

-- the pairs with one more are a message's
pub invariant_of-self-2 : goal.invariant_of-self-2
invariant_of-self-2 c =
    rw c.in_ok-set.ensures.ok (message-with c.args.name.now _ _ (c.requires.0, c.requires.1, sym c.is_hard.ensures ∙ c.if-is_hard.false) c.self.invariant)

pub returns-clause-value : goal.returns-clause-value
returns-clause-value c = rw (c.in_ok-set.ensures.ok) (value-with c.args.name.now c.args.value c.self.inside.pairs)

pub returns-clause-others : goal.returns-clause-others
returns-clause-others c other differs =
    rw (c.in_ok-set.ensures.ok, ← c.self.view_is) (value-with-other c.args.name.now _ other differs c.self.inside.pairs)
