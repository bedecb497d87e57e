use Rattle.std.proofs.Common.{◌≡◌, ◌<◌, ◌+◌, ℕ, List, [], ◌∷◌, ◌++◌, take, length, sym, ap, ◌∙◌, subst, arith}
use Rattle.std.proofs.lemmas.List.{take_more, append_assoc}
use Rattle.sg_msg.specs.declared.offer.Offer.{Offer}
use Rattle.sg_trace.specs.Rows.{offer_text, offers_text}
use Rattle.sg_trace.proofs.Takings.{within-at, offers-last}
use Rattle.sg_trace.proofs.lines.append_offers.Goals as goal

pub append_offer-requires : goal.append_offer-requires
append_offer-requires c =
    subst (λ (o : Offer). o.dest < length c.args.targets.now) (sym c.offer-item.is)
    (within-at (length c.args.targets.now) c.args.offers.now c.loop-offer.offer-index c.offer-item.result c.requires c.loop-offer-test.true)

pub loop-offer-preserved : goal.loop-offer-preserved
loop-offer-preserved c =
    let os = c.args.offers.now in
    let targets = c.args.targets.now in
    let n = c.args.number in
    let i = c.loop-offer.offer-index in
    let o = c.offer-item.result in
    let before = c.args.text.now.items in
    let next : take (i + 1) os ≡ take i os ++ o ∷ [] = take_more os i o (omega arith) ∙ ap (λ y. take i os ++ y ∷ []) (sym c.offer-item.is) in
    c.in_ok-append_offer.ensures
    ∙ ap (λ (x : List ℕ). x ++ offer_text targets n o) c.loop-offer.invariant
    ∙ append_assoc before (offers_text targets n (take i os)) (offer_text targets n o)
    ∙ ap (λ (x : List ℕ). before ++ x) (sym (offers-last targets n (take i os) o) ∙ sym (ap (offers_text targets n) next))
