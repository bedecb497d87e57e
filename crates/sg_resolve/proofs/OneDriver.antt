-- One driver more.
use Rattle.std.proofs.Common.{◌≡◌, ◌∙◌, ℕ, List, Option, ap}
use Rattle.sg_parse_expr.specs.declared.tree.Call.{Call}
use Rattle.sg_parse_obj.specs.declared.driver.Side.{Side}
use Rattle.sg_fault.specs.declared.placed.Placed.{Placed}
use Rattle.sg_fault.specs.Faults.{earlier, least}
use Rattle.sg_resolve.specs.declared.templates.TemplateTexts.{TemplateTexts}
use Rattle.sg_resolve.specs.declared.driver.DriverCounts.{DriverCounts}
use Rattle.sg_resolve.specs.Drivers.{StoreCounts, own_faults, store_of, more_inlets, more_destinations, limit_faults, repeats, with_store, with_driver}

abbrev pub count_of : Option Placed → ℕ → ℕ → StoreCounts → DriverCounts
count_of first inlets destinations stores = record { first = first; inlets = inlets; destinations = destinations; stores = stores }

pub driver-counted : (texts : TemplateTexts) (count : DriverCounts) (side : Side) (call : Call) (first own limit repeat inner both : Option Placed) (inlets destinations : ℕ) (stores : StoreCounts) (store : Option (List ℕ))
    → own ≡ least (own_faults texts side call)
    → store ≡ store_of side call
    → inlets ≡ more_inlets count.inlets side call
    → destinations ≡ more_destinations count.destinations side
    → limit ≡ least (limit_faults inlets destinations side call)
    → repeat ≡ least (repeats count.stores store call)
    → stores ≡ with_store count.stores store
    → inner ≡ earlier limit repeat
    → both ≡ earlier own inner
    → first ≡ earlier count.first both
    → count_of first inlets destinations stores ≡ with_driver texts count (side, call)
unfolding with_driver
driver-counted texts count side call first own limit repeat inner both inlets destinations stores store owns has in' out' limits repeats' enters inners boths firsts =
    let limit-is : limit ≡ least (limit_faults (more_inlets count.inlets side call) (more_destinations count.destinations side) side call) =
    limits ∙ (λ i. least (limit_faults (in' i) (out' i) side call)) in
    let repeat-is : repeat ≡ least (repeats count.stores (store_of side call) call) = repeats' ∙ ap (λ s. least (repeats count.stores s call)) has in
    let stores-is : stores ≡ with_store count.stores (store_of side call) = enters ∙ ap (with_store count.stores) has in
    let inner-is : inner ≡ earlier (least (limit_faults (more_inlets count.inlets side call) (more_destinations count.destinations side) side call)) (least (repeats count.stores (store_of side call) call)) =
    inners ∙ (λ i. earlier (limit-is i) (repeat-is i)) in
    let both-is = boths ∙ (λ i. earlier (owns i) (inner-is i)) in
    let first-is = firsts ∙ ap (earlier count.first) both-is in
    λ i. count_of (first-is i) (in' i) (out' i) (stores-is i)
