-- Offers of passes.
use Rattle.std.proofs.Common.{◌≡◌, ℕ, List, [], ◌∷◌, ◌++◌, refl, sym, ap, ◌∙◌, subst, inl, inr}
use Rattle.std.specs.Prelude.{Contains}
use Rattle.std.proofs.lemmas.List.Elements.{Contains-append_left, Contains-append_right}
use Rattle.sg_msg.specs.declared.offer.Offer.{Offer}
use Rattle.sg_machine.specs.declared.event.Act.{Act}
use Rattle.sg_machine.specs.declared.event.Act.TheVariants.{Admit, Settle, Refill, Store, Rewind, Look}
use Rattle.sg_machine.specs.declared.event.Event.{Event}
use Rattle.sg_machine.specs.Verdicts.{Claim}
use Rattle.sg_machine.specs.Runs.{BufferedEntry}
use Rattle.sg_machine.specs.Safe.{kept_from}
use Rattle.sg_laws.specs.Covered.{Pass, Offers, as_given, as_stored, IsOfferOf, IsOffered}
use Rattle.sg_laws.specs.Passes.{ReadsByAct, AreAdmitted}
use Rattle.sg_laws.proofs.PassLemmas.{claim-record, record-pass}
use Rattle.sg_laws.proofs.EntryLemmas.{ActHolds, EventsHold}

pub offer-more : (form : Offer → Offer) (offers : Offers) (a b : List Pass) (d : ℕ) (k : BufferedEntry) → ((p : Pass) → Contains a p → Contains b p) → IsOfferOf form offers a d k → IsOfferOf form offers b d k
offer-more form offers a b d k more o = record { pass = o.pass; had = more o.pass o.had; given = o.given; gives = o.gives; offer = o.offer; among = o.among; dest = o.dest; entry = o.entry }

pub offered-more : (offers : Offers) (a b : List Pass) (d : ℕ) (k : BufferedEntry) → ((p : Pass) → Contains a p → Contains b p) → IsOffered offers a d k → IsOffered offers b d k
offered-more offers a b d k more (inl o) = inl (offer-more as_given offers a b d k more o)
offered-more offers a b d k more (inr o) = inr (offer-more as_stored offers a b d k more o)

-- each offer that came in is one of a pass
abbrev pub IsOfferGiven : Offers → List Pass → ℕ → BufferedEntry → Type 0
IsOfferGiven offers passes d k = IsOfferOf as_given offers passes d k

claims-given : (offers : Offers) (i : ℕ) (c : Claim) (all ps : List Pass) → ((p : Pass) → Contains ps p → Contains all p) → (end : ℕ) (given : List Offer) → c.end ≡ end → Contains given c.offer
    → (p : Pass) × (Contains ps p × ((p.inlet ≡ i) × ((p.end ≡ end) × offers p given))) → IsOfferGiven offers all c.offer.dest (kept_from i c)
claims-given offers i c all ps more end given q m p =
    record {
      pass = p.0;
      had = more p.0 p.1.0;
      given = given;
      gives = p.1.1.1.1;
      offer = c.offer;
      among = m;
      dest = refl;
      entry = ap (λ (n : ℕ). let k : BufferedEntry = record { inlet = n; end = c.end; flow = c.offer.flow; message = c.offer.message } in k) (sym p.1.1.0)
          ∙ ap (λ (n : ℕ). let k : BufferedEntry = record { inlet = p.0.inlet; end = n; flow = c.offer.flow; message = c.offer.message } in k) (q ∙ sym p.1.1.1.0);
    }

acts-given : (offers : Offers) (act : Act) (all ps : List Pass) → ((p : Pass) → Contains ps p → Contains all p) → ReadsByAct offers act ps → ActHolds (IsOfferGiven offers all) act
acts-given offers (Admit i records vs) all ps more h =
    λ c m.
    let r = claim-record 0 records c m in
    claims-given offers i c all ps more r.r.end r.r.offers r.end r.offer (record-pass offers i records ps r.r h r.among)
acts-given offers (Settle d n) all ps more h = tt
acts-given offers (Refill d n) all ps more h = tt
acts-given offers (Store i w) all ps more h = tt
acts-given offers (Rewind i) all ps more h = tt
acts-given offers Look all ps more h = tt

pub events-given : (offers : Offers) (es : List Event) (all ps : List Pass) → ((p : Pass) → Contains ps p → Contains all p) → AreAdmitted offers es ps → EventsHold (IsOfferGiven offers all) es
events-given offers [] all ps more h = tt
events-given offers (e ∷ es) all ps more h =
    let P : Pass → List Pass → Type 0 = λ p qs. Contains qs p in (
      acts-given offers e.act all h.0 (λ p c. more p (subst (P p) (sym h.1.1.0) (Contains-append_left h.0 h.1.0 p c))) h.1.1.1,
      events-given offers es all h.1.0 (λ p c. more p (subst (P p) (sym h.1.1.0) (Contains-append_right h.0 h.1.0 p c))) h.1.1.2,
    )

acts-weaken : (P Q : ℕ → BufferedEntry → Type 0) (act : Act) → ((d : ℕ) (k : BufferedEntry) → P d k → Q d k) → ActHolds P act → ActHolds Q act
acts-weaken P Q (Admit i records vs) w h = λ c m. w c.offer.dest (kept_from i c) (h c m)
acts-weaken P Q (Settle d n) w h = tt
acts-weaken P Q (Refill d n) w h = tt
acts-weaken P Q (Store i x) w h = tt
acts-weaken P Q (Rewind i) w h = tt
acts-weaken P Q Look w h = tt

pub events-weaken : (P Q : ℕ → BufferedEntry → Type 0) (es : List Event) → ((d : ℕ) (k : BufferedEntry) → P d k → Q d k) → EventsHold P es → EventsHold Q es
events-weaken P Q [] w h = tt
events-weaken P Q (e ∷ es) w h = (acts-weaken P Q e.act w h.0, events-weaken P Q es w h.1)

pub events-split : (P : ℕ → BufferedEntry → Type 0) (es fs : List Event) → EventsHold P (es ++ fs) → EventsHold P es × EventsHold P fs
events-split P [] fs h = (tt, h)
events-split P (e ∷ es) fs h = let r = events-split P es fs h.1 in ((h.0, r.0), r.1)
