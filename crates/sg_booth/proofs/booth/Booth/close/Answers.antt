use Rattle.std.proofs.Common.{◌≡◌, ◌+◌, ◌≤◌, ◌<◌, length, subst, sym, refl}
use Rattle.sg_booth.specs.Lists.{times, CountsOnce, CountsSome}
use Rattle.sg_booth.specs.Rule.{IsHistoryGiven, places_of}
use Rattle.sg_booth.specs.Desks.{BoothState, HasClosed, ArePlacesOrdered}
use Rattle.sg_booth.specs.Seats.{desk_of}
use Rattle.sg_booth.proofs.Closing.{closed-desk}
use Rattle.sg_booth.proofs.Orders.{seated}
use Rattle.sg_booth.proofs.booth.Booth.close.Goals as goal

pub returns : goal.returns
returns g c =
    let about = c.self.inside.lock.shared.key in
    let booth : BoothState g.row.V.Denot = record { id = c.self.inside.lock.shared.table_id; made = about.made.value; turns = about.turns } in
    let z = c.desk.inside.badge.table_id in
    let v = c.into_seat-place.result.me.0 in
    let seat = seated c.desk.inside.badge.views _ _ refl c.into_seat-place.ensures.2 in
    let held = c.hold.ensures.holds in
    let now = held.3 in
    let left = rw (← c.desk.view_is) at c.requires.left in
    rw (← c.self.view_is, ← c.desk.view_is)
    (subst (λ w. HasClosed g.V.Office.step booth (desk_of z w) c.end.result) (sym seat)
    (closed-desk g.V.Office.step g.V.Office.may g.V.Office.room booth z v held.0 c.end.result
    (subst (λ w. 0 < w.left) seat left)
    (subst (λ w. ArePlacesOrdered (desk_of z w)) seat c.desk.invariant.ordered)
    (subst (λ w. IsHistoryGiven g.V.Office.step g.V.Office.may g.V.Office.room about.made.value w.seen c.end.result) now c.end.ensures.given)
    (subst (λ w. length w.seen + (w.left + 1) ≤ about.turns) now c.end.ensures.few)
    (subst (λ w. CountsSome (length w.seen) (λ x. times x (places_of w))) now c.end.ensures.mine)
    (subst (λ w. length (places_of w) + (w.left + 1) ≡ about.turns → CountsOnce 0 (length w.seen) (λ x. times x (places_of w))) now c.end.ensures.all)))
