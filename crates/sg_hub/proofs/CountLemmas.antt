-- What became of offers, one after another.
use Rattle.std.proofs.Common.{arith, ◌≡◌, ◌≤◌, ◌<◌, ◌+◌, ℕ, List, [], ◌∷◌, ◌++◌, length, map, take, drop, get_or, min, refl, sym, ap, ◌∙◌, subst, inl, inr}
use Rattle.std.proofs.lemmas.Bool.{cases_lt}
use Rattle.std.proofs.lemmas.List.{take_more, drop_more, drop_all, flat_map_more}
use Rattle.sg_machine.specs.declared.event.Admission.{Admission}
use Rattle.sg_machine.specs.declared.event.Verdict.{Verdict}
use Rattle.sg_msg.specs.declared.offer.Offer.{Offer}
use Rattle.sg_hub.specs.Counts.{CountsOffer, CountsOffers, dests_of}
use Rattle.sg_hub.specs.declared.passed.Offered.{Offered}

-- the destinations of one more record's offers
pub dests-more : (before : List ℕ) (records : List Admission) (k : ℕ) (r : Admission) → k < length records → r ≡ get_or records k r
    → (before ++ dests_of (take k records)) ++ map (λ (o : Offer). o.dest) r.offers ≡ before ++ dests_of (take (k + 1) records)
dests-more before records k r below is =
    flat_map_more (λ (a : Admission). map (λ (o : Offer). o.dest) a.offers) before (take k records) r
    ∙ ap (λ (rs : List Admission). before ++ dests_of rs) (ap (λ (a : Admission). take k records ++ a ∷ []) is ∙ sym (take_more records k r below))

-- the offers from one place on, and those from the next one on
pub counts-next : (dests : List ℕ) (verdicts : List Verdict) (old between new : List Offered) (k d : ℕ) (v : Verdict) → k < length dests → k < length verdicts
    → CountsOffer (get_or dests k d) (get_or verdicts k v) old between
    → CountsOffers (drop (k + 1) dests) (drop (k + 1) verdicts) between new → CountsOffers (drop k dests) (drop k verdicts) old new
counts-next dests verdicts old between new k d v in_dests in_verdicts one rest =
    subst (λ (xs : List ℕ). CountsOffers xs (drop k verdicts) old new) (sym (drop_more dests k d in_dests))
    (subst (λ (ys : List Verdict). CountsOffers (get_or dests k d ∷ drop (k + 1) dests) ys old new) (sym (drop_more verdicts k v in_verdicts)) (between, (one, rest)))

no-dests : (dests : List ℕ) (verdicts : List Verdict) (offered : List Offered) → dests ≡ [] → CountsOffers dests verdicts offered offered
no-dests [] verdicts offered e = refl
no-dests (d ∷ ds) verdicts offered e = absurd (let wrong : d ∷ ds ≡ [] = e in cc)

no-verdicts : (dests : List ℕ) (verdicts : List Verdict) (offered : List Offered) → verdicts ≡ [] → CountsOffers dests verdicts offered offered
no-verdicts [] verdicts offered e = refl
no-verdicts (d ∷ ds) [] offered e = refl
no-verdicts (d ∷ ds) (v ∷ vs) offered e = absurd (let wrong : v ∷ vs ≡ [] = e in cc)

-- no offer is left
pub counts-end : (dests : List ℕ) (verdicts : List Verdict) (offered : List Offered) (k : ℕ) → min (length dests) (length verdicts) ≤ k
    → CountsOffers (drop k dests) (drop k verdicts) offered offered
counts-end dests verdicts offered k all = elim (cases_lt k (length dests)) [
  | inl below ↦ no-verdicts (drop k dests) (drop k verdicts) offered (drop_all k verdicts (omega (arith, all, below)))
  | inr above ↦ no-dests (drop k dests) (drop k verdicts) offered (drop_all k dests above)
]
