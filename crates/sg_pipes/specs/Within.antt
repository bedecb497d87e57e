-- Log paths whose offers are few, and go to destinations that are there.
use Rattle.std.specs.Prelude.{ℕ, ◌≤◌, List, [], ◌∷◌}
use mathlib.Core.HLevel.{×_prop, Unit-prop}
use native.Mathlib.Bridge.{le_prop}
use Rattle.sg_tree.specs.Walk.{Steps, Siblings, Choice, none_left, filter, rewrite, parse, deliver, junction, choose, embedded, no_siblings, sibling, otherwise, test}
use Rattle.sg_tree.specs.Offers.{TopStatement, Woods}
use Rattle.sg_tree.specs.Bounds.{all_offers}
use Rattle.sg_tree.specs.Laws.{AreDestNumbers, StaysWithin, AllStayWithin, EachStaysWithin, TopsStayWithin}

abbrev pub AreWoodsWithin : Woods → Type 0
AreWoodsWithin woods = TopsStayWithin woods.dests woods.tops × (all_offers woods.tops ≤ 1024)

-- these are facts
AreDests-prop : (dests : ℕ) (drivers : List ℕ) → IsProp (AreDestNumbers dests drivers)
AreDests-prop dests [] = Unit-prop
AreDests-prop dests (driver ∷ drivers) = ×_prop le_prop (AreDests-prop dests drivers)

mutual
  StaysWithin-prop : (dests : ℕ) (steps : Steps) → IsProp (StaysWithin dests steps)
  StaysWithin-prop dests none_left = Unit-prop
  StaysWithin-prop dests (filter decision rest) = StaysWithin-prop dests rest
  StaysWithin-prop dests (rewrite rule rest) = StaysWithin-prop dests rest
  StaysWithin-prop dests (parse rule rest) = StaysWithin-prop dests rest
  StaysWithin-prop dests (deliver drivers rest) =
      ×_prop (AreDests-prop dests drivers) (StaysWithin-prop dests rest)
  StaysWithin-prop dests (junction channels rest) =
      ×_prop (AllStayWithin-prop dests channels) (StaysWithin-prop dests rest)
  StaysWithin-prop dests (choose choice rest) =
      ×_prop (EachStaysWithin-prop dests choice) (StaysWithin-prop dests rest)
  StaysWithin-prop dests (embedded logs) = AllStayWithin-prop dests logs

  AllStayWithin-prop : (dests : ℕ) (siblings : Siblings) → IsProp (AllStayWithin dests siblings)
  AllStayWithin-prop dests no_siblings = Unit-prop
  AllStayWithin-prop dests (sibling marks steps more) =
      ×_prop (StaysWithin-prop dests steps) (AllStayWithin-prop dests more)

  EachStaysWithin-prop : (dests : ℕ) (choice : Choice) → IsProp (EachStaysWithin dests choice)
  EachStaysWithin-prop dests (otherwise steps) = StaysWithin-prop dests steps
  EachStaysWithin-prop dests (test decision steps more) =
      ×_prop (StaysWithin-prop dests steps) (EachStaysWithin-prop dests more)

TopsStayWithin-prop : (dests : ℕ) (tops : List TopStatement) → IsProp (TopsStayWithin dests tops)
TopsStayWithin-prop dests [] = Unit-prop
TopsStayWithin-prop dests (top ∷ tops) = ×_prop (StaysWithin-prop dests top.steps)
    (TopsStayWithin-prop dests tops)

pub AreWoodsWithin-prop : (woods : Woods) → IsProp (AreWoodsWithin woods)
AreWoodsWithin-prop woods = ×_prop (TopsStayWithin-prop woods.dests woods.tops) le_prop
