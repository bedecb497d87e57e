use Rattle.std.proofs.Common.{◌≡◌, ◌++◌, map, take}
use Rattle.sg_msg.specs.declared.offer.Offer.{Offer}
use Rattle.sg_hub.proofs.passed.list_offers.Given as goal

abbrev pub invariant-loop-offer : goal.invariant-loop-offer
invariant-loop-offer l = l.dests.items ≡ l.fn.dests.items ++ map (λ (o : Offer). o.dest) (take l.offer-index l.offers)
