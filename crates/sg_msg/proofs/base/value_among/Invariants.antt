use Rattle.std.proofs.Common.{◌≡◌, drop}
use Rattle.sg_msg.specs.Message.{value_of}
use Rattle.sg_msg.specs.Parts.{pairs_of}
use Rattle.sg_msg.proofs.base.value_among.Given as goal

-- it is the value among the pairs that are left
abbrev pub invariant-loop-pair : goal.invariant-loop-pair
invariant-loop-pair l =
    value_of l.name (pairs_of l.texts (drop l.pair-index l.pairs)) ≡ value_of l.name (pairs_of l.texts l.pairs)
