-- A booth is closed by a desk.
use Rattle.std.proofs.Common.{◌≡◌, ℕ, ◌+◌, ◌-◌, ◌≤◌, ◌<◌, List, ◌++◌, length, refl, arith}
use Rattle.atomic_table.specs.Seated.{TableId}
use Rattle.sg_booth.specs.declared.office.OfficeExchange.{OfficeExchange}
use Rattle.sg_booth.specs.declared.table.Notes.{Notes}
use Rattle.sg_booth.specs.Lists.{times, CountsOnce, CountsSome}
use Rattle.sg_booth.specs.Rule.{IsHistoryGiven, places_of}
use Rattle.sg_booth.specs.Desks.{BoothState, ArePlacesOrdered, HasClosed}
use Rattle.sg_booth.specs.Seats.{desk_of}
use Rattle.sg_booth.proofs.Calls.{entries-placed}

module _ {V C R : Type 0} (step : V → C → R → V → Type 0) (may : V → C → Type 0) (room : V → ℕ) where
  pub closed-desk : (booth : BoothState V) (z : TableId) (v : Notes V C R) (more : List (OfficeExchange C R)) (office : V) → 0 < v.left → ArePlacesOrdered (desk_of z v)
      → IsHistoryGiven step may room booth.made (v.seen ++ more) office
      → length (v.seen ++ more) + (v.left - 1 + 1) ≤ booth.turns
      → CountsSome (length (v.seen ++ more)) (λ x. times x (places_of v))
      → (length (places_of v) + (v.left - 1 + 1) ≡ booth.turns → CountsOnce 0 (length (v.seen ++ more)) (λ x. times x (places_of v)))
      → HasClosed step booth (desk_of z v) office
  closed-desk booth z v more office left ordered given few mine all = record {
    history = v.seen ++ more;
    gives = given.makes;
    seen = (more, refl);
    few = omega (arith, few, left);
    mine = mine;
    calls = entries-placed v.seen more v.own v.joined ordered.0 ordered.1;
    all = λ whole. all (omega (arith, whole, left));
  }
