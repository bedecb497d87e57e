-- Offers of a record, one more.
use Rattle.sg_msg.specs.Offers.{AllWithin}
use Rattle.std.proofs.Common.{List, ℕ, ◌<◌, ◌∷◌, ◌++◌, []}
use Rattle.sg_msg.specs.declared.offer.Offer.{Offer}

pub within_push : (n : ℕ) (os : List Offer) (o : Offer) → AllWithin n os → o.dest < n → AllWithin n (os ++ o ∷ [])
within_push n [] o h l = (l, tt)
within_push n (p ∷ os) o h l = (h.0, within_push n os o h.1 l)
