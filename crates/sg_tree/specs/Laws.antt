-- Where offers go, and whether they are flow-controlled.
use Rattle.std.specs.Prelude.{◌≡◌, ◌<◌, ℕ, true, List, [], ◌∷◌}
use Rattle.sg_msg.specs.Message.{Content}
use Rattle.sg_msg.specs.declared.offer.Offer.{Offer}
use Rattle.sg_frame.specs.Records.{Record}
use Rattle.sg_tree.specs.Walk.{Steps, Siblings, Choice, none_left, filter, rewrite, parse, deliver, junction, choose, embedded, no_siblings, sibling, otherwise, test, branches}
use Rattle.sg_tree.specs.Offers.{TopStatement, Woods, AreOffers}
use Rattle.sg_msg.specs.Offers.{AllWithin}

-- each destination is one of so many
abbrev pub AreDestNumbers : ℕ → List ℕ → Type 0
AreDestNumbers dests [] = Unit {0}
AreDestNumbers dests (d ∷ ds) = (d < dests) × AreDestNumbers dests ds

abbrev mutual
  -- each destination that they name
  pub StaysWithin : ℕ → Steps → Type 0
  StaysWithin dests none_left = Unit {0}
  StaysWithin dests (filter decision rest) = StaysWithin dests rest
  StaysWithin dests (rewrite rule rest) = StaysWithin dests rest
  StaysWithin dests (parse rule rest) = StaysWithin dests rest
  StaysWithin dests (deliver drivers rest) = AreDestNumbers dests drivers × StaysWithin dests rest
  StaysWithin dests (junction channels rest) = AllStayWithin dests channels × StaysWithin dests rest
  StaysWithin dests (choose choice rest) = EachStaysWithin dests choice × StaysWithin dests rest
  StaysWithin dests (embedded logs) = AllStayWithin dests logs

  pub AllStayWithin : ℕ → Siblings → Type 0
  AllStayWithin dests no_siblings = Unit {0}
  AllStayWithin dests (sibling marks steps more) =
      StaysWithin dests steps × AllStayWithin dests more

  pub EachStaysWithin : ℕ → Choice → Type 0
  EachStaysWithin dests (otherwise steps) = StaysWithin dests steps
  EachStaysWithin dests (test decision steps more) =
      StaysWithin dests steps × EachStaysWithin dests more

abbrev pub TopsStayWithin : ℕ → List TopStatement → Type 0
TopsStayWithin dests [] = Unit {0}
TopsStayWithin dests (top ∷ tops) = StaysWithin dests top.steps × TopsStayWithin dests tops

-- each offer is flow-controlled
abbrev pub AllFlow : List Offer → Type 0
AllFlow [] = Unit {0}
AllFlow (offer ∷ offers) = (offer.flow ≡ true) × AllFlow offers

-- where each destination that is named is there, each offer goes to one
abbrev pub OffersAreWithin : Type 0
OffersAreWithin = (woods : Woods) (i : ℕ) (of_record : Record) (offers : List Offer)
    → TopsStayWithin woods.dests woods.tops → AreOffers woods i of_record offers
    → AllWithin woods.dests offers

-- what flows into siblings stays flow-controlled in all of them
abbrev pub FlowIsInherited : Type 0
FlowIsInherited = (siblings : Siblings) (message : Content)
    → AllFlow (branches siblings message true).deliveries
