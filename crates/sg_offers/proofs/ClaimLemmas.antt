-- The offers of a batch, record after record.
use Rattle.std.proofs.Common.{◌≡◌, ℕ, ◌+◌, List, [], ◌∷◌, ◌++◌, length, ap, ◌∙◌}
use Rattle.std.proofs.lemmas.List.{length-append}
use Rattle.sg_msg.specs.declared.offer.Offer.{Offer}
use Rattle.sg_counter.specs.Bringing.{MayEnter, AllMayEnter}
use Rattle.sg_machine.specs.declared.event.Admission.{Admission}
use Rattle.sg_machine.specs.Verdicts.{Claim, claims_in, claims_from}
use Rattle.sg_offers.specs.Answering.{AreClaimsWithin}
use Rattle.sg_machine.proofs.RecordLemmas.{length-claims}
use Rattle.sg_msg.specs.Offers.{AllWithin}

pub length-more : (place : ℕ) (r : Admission) (rs : List Admission) → length (claims_from place (r ∷ rs)) ≡ length r.offers + length (claims_from (place + 1) rs)
length-more place r rs = length-append (claims_in place r.end r.offers) (claims_from (place + 1) rs) ∙ ap (λ n. n + length (claims_from (place + 1) rs)) (length-claims place r.end r.offers)

-- Each is to a destination that is there.

pub within-in : (count place end : ℕ) (os : List Offer) → AllWithin count os → AreClaimsWithin count (claims_in place end os)
within-in count place end [] h = tt
within-in count place end (o ∷ os) h = (h.0, within-in count place end os h.1)

pub within-append : (count : ℕ) (cs ds : List Claim) → AreClaimsWithin count cs → AreClaimsWithin count ds → AreClaimsWithin count (cs ++ ds)
within-append count [] ds h g = g
within-append count (c ∷ cs) ds h g = (h.0, within-append count cs ds h.1 g)

pub within-from : (count place : ℕ) (rs : List Admission) → AllMayEnter count rs → AreClaimsWithin count (claims_from place rs)
within-from count place [] h = tt
within-from count place (r ∷ rs) h =
    let first : MayEnter count r = h.0 in
    within-append count (claims_in place r.end r.offers) (claims_from (place + 1) rs) (within-in count place r.end r.offers first.dests) (within-from count (place + 1) rs h.1)
