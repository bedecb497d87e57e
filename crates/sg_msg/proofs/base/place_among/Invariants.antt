use Rattle.std.proofs.Common.{◌≡◌, ◌≤◌, length}
use Rattle.std.specs.List.{AllWithin}
use Rattle.std.specs.declared.cmp.Ordering.TheVariants.{Greater}
use Rattle.sg_msg.specs.Message.{byte_order}
use Rattle.sg_msg.specs.Parts.{pairs_of}
use Rattle.sg_msg.proofs.base.place_among.Given as goal

-- greater names stand from this place on
abbrev pub invariant-greater : goal.invariant-greater
invariant-greater l = record {
  greater : AllWithin (λ pair. byte_order pair.name l.name ≡ Greater) (pairs_of l.texts l.pairs) l.end (length l.pairs);
  within : l.end ≤ length l.pairs;
}

abbrev pub decreases-greater : goal.decreases-greater
decreases-greater l = l.end
