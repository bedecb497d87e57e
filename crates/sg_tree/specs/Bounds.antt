-- How many offers a record may have, and how many messages may reach a place, where nothing stops a message.
use Rattle.std.specs.Prelude.{◌≤◌, ℕ, ◌+◌, ◌*◌, max, List, [], ◌∷◌, length}
use Rattle.sg_msg.specs.declared.offer.Offer.{Offer}
use Rattle.sg_frame.specs.Records.{Record}
use Rattle.sg_tree.specs.Walk.{Steps, Siblings, Choice, none_left, filter, rewrite, parse, deliver, junction, choose, embedded, no_siblings, sibling, otherwise, test}
use Rattle.sg_tree.specs.Offers.{TopStatement, Woods, AreOffers}

-- what becomes of the messages that reach a list of elements: so many offers are made and so many messages come out; a place is each
-- point before an element and each end of a list
pub record Reach : Type 0 where
  pub offers : ℕ
  pub out : ℕ
  -- the most messages at one place
  pub most : ℕ

-- one and then the other, each over the messages
abbrev pub beside : Reach → Reach → Reach
beside a b = record { offers = a.offers + b.offers; out = a.out + b.out; most = max a.most b.most }

-- the greatest of both, each number by itself
abbrev pub greatest : Reach → Reach → Reach
greatest a b = record {
  offers = max a.offers b.offers;
  out = max a.out b.out;
  most = max a.most b.most;
}

-- n messages, what becomes of them, and then the rest over those that come out
abbrev pub onward : ℕ → Reach → Reach → Reach
onward n first rest = record {
  offers = first.offers + rest.offers;
  out = rest.out;
  most = max n (max first.most rest.most);
}

abbrev mutual
  pub reach : Steps → ℕ → Reach
  reach none_left n = record { offers = 0; out = n; most = n }
  reach (filter decision rest) n = reach rest n
  reach (rewrite rule rest) n = reach rest n
  reach (parse rule rest) n = reach rest n
  reach (deliver drivers rest) n =
      record (reach rest n) { offers = n * length drivers + (reach rest n).offers }
  reach (junction channels rest) n =
      onward n (reach_all channels n) (reach rest (reach_all channels n).out)
  reach (choose choice rest) n =
      onward n (reach_each choice n) (reach rest (reach_each choice n).out)
  reach (embedded logs) n = record {
    offers = (reach_all logs n).offers;
    out = n;
    most = max n (reach_all logs n).most;
  }

  -- each sibling is reached by all
  pub reach_all : Siblings → ℕ → Reach
  reach_all no_siblings n = record { offers = 0; out = 0; most = 0 }
  reach_all (sibling marks steps more) n = beside (reach steps n) (reach_all more n)

  -- a message takes one of the branches; a missing `else` lets it pass
  pub reach_each : Choice → ℕ → Reach
  reach_each (otherwise steps) n = reach steps n
  reach_each (test decision steps more) n = greatest (reach steps n) (reach_each more n)

-- the offers of a record that each of these statements is offered
abbrev pub all_offers : List TopStatement → ℕ
all_offers [] = 0
all_offers (top ∷ tops) = (reach top.steps 1).offers + all_offers tops

-- at most so many messages reach a place
abbrev pub AreMessagesFew : ℕ → List TopStatement → Type 0
AreMessagesFew most [] = Unit {0}
AreMessagesFew most (top ∷ tops) = ((reach top.steps 1).most ≤ most) × AreMessagesFew most tops

-- no record has more
abbrev pub OffersAreBounded : Type 0
OffersAreBounded = (woods : Woods) (i : ℕ) (of_record : Record) (offers : List Offer)
    → AreOffers woods i of_record offers → length offers ≤ all_offers woods.tops
