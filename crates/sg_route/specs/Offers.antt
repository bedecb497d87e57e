-- Offers, and the records that they are of.
use Rattle.std.specs.Prelude.{◌≡◌, ℕ, ℤ, List, []}
use Rattle.sg_msg.specs.declared.offer.Offer.{Offer}
use Rattle.sg_frame.specs.Records.{Record}

-- a record of this peer, text and moment; where it stood in its stream doesn't count
abbrev pub record_at : List ℕ → List ℕ → ℤ → Record
record_at peer text at = record { peer = peer; item = record { text = text; at = at; end = 0 } }

-- a router that says the same
pub record SameOffers (old new : ℕ → Record → List Offer → Type 0) : Type 0 where
  pub forth : (i : ℕ) (r : Record) (offers : List Offer) → old i r offers → new i r offers
  pub back : (i : ℕ) (r : Record) (offers : List Offer) → new i r offers → old i r offers

-- a router that knows as much, and says the same
pub record SameRouter (offers offers' : ℕ → Record → List Offer → Type 0)
    (inlets inlets' dests dests' : ℕ) : Type 0 where
  pub same : SameOffers offers offers'
  pub inlets_same : inlets' ≡ inlets
  pub dests_same : dests' ≡ dests
