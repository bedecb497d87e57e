use Rattle.std.proofs.Common.{◌≡◌, ◌<◌, [], ◌∷◌, ◌++◌, sym, ap, ◌∙◌, subst}
use Rattle.sg_booth.specs.declared.office.OfficeExchange.{OfficeExchange}
use Rattle.sg_booth.specs.Rule.{IsHistoryGiven, exchange_of, passed_notes}
use Rattle.sg_booth.proofs.Turns.{taken, lifted, given-more}
use Rattle.sg_booth.proofs.steps.serve_at.Goals as goal

pub lift-office-requires-clause-slot : goal.lift-office-requires-clause-slot
lift-office-requires-clause-slot g c =
    let t = taken g.V.Office.step g.V.Office.may g.V.Office.room c.args.lock.now.shared.key.made.value c.args.place.now.me c.draw-ticket.new.place.me c.wait.new.place.me c.draw-ticket.result c.requires.idle.0.0 c.requires.made c.draw-ticket.ensures.me c.wait.ensures.takes in
    (t.0, t.2)

pub serve-reply-requires-clause-room : goal.serve-reply-requires-clause-room
serve-reply-requires-clause-room g c =
    let t = taken g.V.Office.step g.V.Office.may g.V.Office.room c.args.lock.now.shared.key.made.value c.args.place.now.me c.draw-ticket.new.place.me c.wait.new.place.me c.draw-ticket.result c.requires.idle.0.0 c.requires.made c.draw-ticket.ensures.me c.wait.ensures.takes in
    let same = lifted _ _ _ t.2 c.lift-office.ensures.office in
    subst (λ o. 0 < g.V.Office.room o) same t.5

pub serve-reply-requires-clause-may : goal.serve-reply-requires-clause-may
serve-reply-requires-clause-may g c =
    let t = taken g.V.Office.step g.V.Office.may g.V.Office.room c.args.lock.now.shared.key.made.value c.args.place.now.me c.draw-ticket.new.place.me c.wait.new.place.me c.draw-ticket.result c.requires.idle.0.0 c.requires.made c.draw-ticket.ensures.me c.wait.ensures.takes in
    let same = lifted _ _ _ t.2 c.lift-office.ensures.office in
    subst (λ o. g.V.Office.may o c.args.call) same (t.4.may_still c.args.call c.requires.may)

pub pass-requires-clause-given : goal.pass-requires-clause-given
pass-requires-clause-given g c =
    let t = taken g.V.Office.step g.V.Office.may g.V.Office.room c.args.lock.now.shared.key.made.value c.args.place.now.me c.draw-ticket.new.place.me c.wait.new.place.me c.draw-ticket.result c.requires.idle.0.0 c.requires.made c.draw-ticket.ensures.me c.wait.ensures.takes in
    let same = lifted _ _ _ t.2 c.lift-office.ensures.office in
    let e : OfficeExchange g.row.V-Call.Denot g.row.V-Reply.Denot = record { call = c.args.call; reply = c.serve-reply.result } in
    let said : e ≡ exchange_of (c.of-asked.result, c.of-replied.result) = λ i. record { call = sym c.of-asked.ensures i; reply = sym c.of-replied.ensures i } in
    let before : IsHistoryGiven g.V.Office.step g.V.Office.may g.V.Office.room c.args.lock.now.shared.key.made.value (c.args.place.now.me.0.seen ++ t.1) c.lift-office.result = subst (λ o. IsHistoryGiven g.V.Office.step g.V.Office.may g.V.Office.room c.args.lock.now.shared.key.made.value (c.args.place.now.me.0.seen ++ t.1) o) same t.4 in
    let seen : c.args.place.now.me.0.seen ++ t.1 ≡ c.lift-office.new.place.me.0.seen = sym (ap (λ m. m.0.seen) c.lift-office.ensures.me ∙ ap (λ v. v.seen) t.3) in
    subst (λ z. IsHistoryGiven g.V.Office.step g.V.Office.may g.V.Office.room c.args.lock.now.shared.key.made.value z c.serve-reply.new.self) (λ i. seen i ++ said i ∷ [])
    (given-more g.V.Office.step g.V.Office.may g.V.Office.room _ _ _ _ e before c.serve-reply.ensures.step c.serve-reply.ensures.room c.serve-reply.ensures.may)

pub returns-clause-turned : goal.returns-clause-turned
returns-clause-turned g c =
    let t = taken g.V.Office.step g.V.Office.may g.V.Office.room c.args.lock.now.shared.key.made.value c.args.place.now.me c.draw-ticket.new.place.me c.wait.new.place.me c.draw-ticket.result c.requires.idle.0.0 c.requires.made c.draw-ticket.ensures.me c.wait.ensures.takes in
    let same = lifted _ _ _ t.2 c.lift-office.ensures.office in
    let e : OfficeExchange g.row.V-Call.Denot g.row.V-Reply.Denot = record { call = c.args.call; reply = c.serve-reply.result } in
    let said : exchange_of (c.of-asked.result, c.of-replied.result) ≡ e = λ i. record { call = c.of-asked.ensures i; reply = c.of-replied.ensures i } in
    let before : IsHistoryGiven g.V.Office.step g.V.Office.may g.V.Office.room c.args.lock.now.shared.key.made.value (c.args.place.now.me.0.seen ++ t.1) c.lift-office.result = subst (λ o. IsHistoryGiven g.V.Office.step g.V.Office.may g.V.Office.room c.args.lock.now.shared.key.made.value (c.args.place.now.me.0.seen ++ t.1) o) same t.4 in
    let was : c.lift-office.new.place.me.0 ≡ _ = ap (λ m. m.0) c.lift-office.ensures.me ∙ t.3 in (
      t.1,
      c.lift-office.result,
      c.serve-reply.new.self,
      ap (λ m. m.1) c.pass.ensures.me,
      ap (λ m. m.0) c.pass.ensures.me ∙ (λ i. passed_notes (was i) (said i)),
      before,
      c.serve-reply.ensures.step,
    )
