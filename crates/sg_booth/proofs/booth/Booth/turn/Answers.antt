use Rattle.std.proofs.Common.{rules, ◌≡◌, ◌-◌, length, ap, ◌∙◌, subst, sym}
use Rattle.sg_booth.specs.declared.office.OfficeExchange.{OfficeExchange}
use Rattle.sg_booth.specs.Lists.{Rises, entries_at}
use Rattle.sg_booth.specs.Desks.{DeskState, ArePlacesOrdered, turned}
use Rattle.sg_booth.specs.Seats.{desk_of, notes_in}
use Rattle.sg_booth.proofs.Calls.{entries-turned}
use Rattle.sg_booth.proofs.Orders.{turned-ordered, at-rest, seated}
use Rattle.sg_booth.proofs.booth.Booth.turn.Goals as goal

pub invariant_of-desk : goal.invariant_of-desk
invariant_of-desk g c =
    let t = c.serve_at-reply.ensures.turned in
    let was = c.desk.invariant in
    let now = t.4 in
    let v = c.into_seat-place.result.me.0 in
    let seat = seated _ _ _ (ap (λ b. b.views) c.replace-badge.ensures.value) c.into_seat-place.ensures.2 in
    at-rest c.into_badge.result.table_id c.into_badge.result.views c.serve_at-reply.new.place.me.0 _ c.into_badge.ensures.2 (ap (λ v. v.ticket) now, ap (λ v. v.sure) now, ap (λ v. v.out) now) (ap (λ v. v.told) now ∙ (ap (λ v. v.told) (sym seat) ∙ was.untold))
    (ap (λ k. k - 1) (was.left_is ∙ ap (λ v. v.left) seat) ∙ sym (ap (λ v. v.left) now))
    (subst (λ v. ArePlacesOrdered (desk_of c.into_badge.result.table_id v)) (sym now) (turned-ordered c.into_badge.result.table_id v t.0 (record { call = c.args.call; reply = c.serve_at-reply.result }) (subst (λ v. ArePlacesOrdered (desk_of c.into_badge.result.table_id v)) seat was.ordered)))

pub returns : goal.returns
returns g c =
    let t = c.serve_at-reply.ensures.turned in
    let e : OfficeExchange g.row.V-Call.Denot g.row.V-Reply.Denot = record { call = c.args.call; reply = c.serve_at-reply.result } in
    let new : DeskState g.row.V.Denot g.row.V-Call.Denot g.row.V-Reply.Denot = desk_of c.into_badge.result.table_id (notes_in c.into_badge.result.views) in
    let is : new ≡ turned c.args.desk.now t.0 e = search rules in
    let rises : Rises 0 c.args.desk.now.own (length c.args.desk.now.seen) = subst (λ (d : DeskState g.row.V.Denot g.row.V-Call.Denot g.row.V-Reply.Denot). Rises 0 d.own (length d.seen)) c.desk.view_is c.desk.invariant.ordered.0 in
    record {
      turned = record {
        between = t.0;
        desk = is;
        calls = ap (λ (d : DeskState g.row.V.Denot g.row.V-Call.Denot g.row.V-Reply.Denot). entries_at d.seen d.own) is ∙ entries-turned c.args.desk.now.seen t.0 e c.args.desk.now.own rises;
        before = t.1;
        after = t.2;
        gives = search rules;
        serves = t.6;
      };
    }
