-- Routers that say the same.
use Rattle.std.proofs.Common.{ℕ, List, refl, ◌∙◌}
use Rattle.sg_msg.specs.declared.offer.Offer.{Offer}
use Rattle.sg_frame.specs.Records.{Record}
use Rattle.sg_route.specs.Offers.{SameRouter}

pub router-same : (offers : ℕ → Record → List Offer → Type 0) (inlets dests : ℕ) → SameRouter offers offers inlets inlets dests dests
router-same offers inlets dests = record { same = record { forth = λ i r os h. h; back = λ i r os h. h }; inlets_same = refl; dests_same = refl }

pub router-then : (a b c : ℕ → Record → List Offer → Type 0) (ia ib ic da db dc : ℕ) → SameRouter a b ia ib da db → SameRouter b c ib ic db dc → SameRouter a c ia ic da dc
router-then a b c ia ib ic da db dc s t = record {
  same = record {
    forth = λ i r os h. t.same.forth i r os (s.same.forth i r os h);
    back = λ i r os h. s.same.back i r os (t.same.back i r os h);
  };
  inlets_same = t.inlets_same ∙ s.inlets_same;
  dests_same = t.dests_same ∙ s.dests_same;
}
