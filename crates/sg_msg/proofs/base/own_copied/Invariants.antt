use Rattle.std.proofs.Common.{◌≡◌, take}
use Rattle.sg_msg.proofs.base.own_copied.Given as goal

abbrev pub invariant-loop-text : goal.invariant-loop-text
invariant-loop-text l = l.copies.items ≡ take l.text-index l.own
