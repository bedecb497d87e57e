use Rattle.std.proofs.Common.{◌+◌, [], ap, refl, ◌∙◌, subst, sym}
use Rattle.sg_booth.specs.Desks.{ArePlacesOrdered}
use Rattle.sg_booth.specs.Seats.{desk_of}
use Rattle.sg_booth.proofs.Orders.{glued-ordered, at-rest, seated}
use Rattle.sg_booth.proofs.booth.Booth.join.Goals as goal

pub invariant_of-desk : goal.invariant_of-desk
invariant_of-desk g c =
    let t = c.glue.ensures.glued in
    let was = c.desk.invariant in
    let theirs = c.other.invariant in
    let now = t.2 in
    let z = c.into_badge.result.table_id in
    let v = c.into_seat-place.result.me.0 in
    let w = c.into_seat.result.me.0 in
    let seat = seated _ _ _ (ap (λ b. b.views) c.replace-badge.ensures.value) c.into_seat-place.ensures.2 in
    let their_seat = seated c.other.inside.badge.views _ _ refl c.into_seat.ensures.2 in
    at-rest z c.into_badge.result.views c.glue.new.place.me.0 _ c.into_badge.ensures.2
    (ap (λ v. v.ticket) now ∙ (ap (λ v. v.ticket) (sym seat) ∙ was.idle.0), ap (λ v. v.sure) now ∙ (ap (λ v. v.sure) (sym seat) ∙ was.idle.1), ap (λ v. v.out) now ∙ (ap (λ v. v.out) (sym seat) ∙ was.idle.2))
    (ap (λ v. v.told) now)
    ((λ i. (was.left_is ∙ ap (λ v. v.left) seat) i + (theirs.left_is ∙ ap (λ v. v.left) their_seat) i) ∙ sym (ap (λ v. v.left) now))
    (subst (λ v. ArePlacesOrdered (desk_of z v)) (sym now) (glued-ordered z v w (v.left + w.left) t.0 [] (subst (λ v. ArePlacesOrdered (desk_of z v)) seat was.ordered) (subst (λ v. ArePlacesOrdered (desk_of z v)) their_seat theirs.ordered) t.3))
