use Rattle.std.proofs.Common.{◌≡◌, drop}
use Rattle.sg_msg.specs.Message.{with_all}
use Rattle.sg_parsers.proofs.set.set_each.Given as goal

-- the pairs that are left make of the message what all of them make of the first one
abbrev pub invariant-loop-pair : goal.invariant-loop-pair
invariant-loop-pair l =
    record l.message { pairs = with_all (drop l.pair-index l.pairs) l.message.pairs } ≡ record l.fn.message { pairs = with_all l.pairs l.fn.message.pairs }
