-- Offers of a record.
use Rattle.std.specs.Prelude.{List, ℕ, ◌<◌, ◌∷◌, []}
use Rattle.sg_msg.specs.declared.offer.Offer.{Offer}

-- each goes to one of so many destinations
abbrev pub AllWithin : ℕ → List Offer → Type 0
AllWithin dests [] = Unit {0}
AllWithin dests (offer ∷ offers) = (offer.dest < dests) × AllWithin dests offers
