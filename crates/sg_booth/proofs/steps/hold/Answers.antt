use Rattle.std.proofs.Common.{arith, ◌<◌, sym, ap, ◌∙◌, subst}
use Rattle.atomic_table.specs.Table.{rest}
use Rattle.sg_booth.specs.Rule.{IsHistoryGiven}
use Rattle.sg_booth.proofs.Keeps.{returns}
use Rattle.sg_booth.proofs.Turns.{taken}
use Rattle.sg_booth.proofs.steps.hold.Goals as goal

pub load-requires : goal.load-requires
load-requires g c =
    let words = c.requires.table.1.0 in
    let about = c.args.lock.now.shared.key in
    let t = taken g.V.Office.step g.V.Office.may g.V.Office.room c.args.lock.now.shared.key.made.value c.args.place.now.me c.draw-ticket.new.place.me c.wait.new.place.me c.draw-ticket.result c.requires.idle.0.0 c.requires.made c.draw-ticket.ensures.me c.wait.ensures.takes in (
      c.wait.ensures.same.0 ∙ (c.draw-ticket.ensures.same.0 ∙ c.requires.table.0),
      omega arith,
      returns g.V.Office.step g.V.Office.may g.V.Office.room about.made.value about.turns _ _ _ _ t.0 t.2 (subst (λ v. 0 < v.sure) (sym t.3) (omega arith)) (ap (λ v. v.out) t.3)
          (subst (λ v. IsHistoryGiven g.V.Office.step g.V.Office.may g.V.Office.room about.made.value v.seen t.0.office) (sym t.3) t.4),
    )

pub returns-clause-holds : goal.returns-clause-holds
returns-clause-holds g c =
    let t = taken g.V.Office.step g.V.Office.may g.V.Office.room c.args.lock.now.shared.key.made.value c.args.place.now.me c.draw-ticket.new.place.me c.wait.new.place.me c.draw-ticket.result c.requires.idle.0.0 c.requires.made c.draw-ticket.ensures.me c.wait.ensures.takes in
    (t.1, _, c.load.ensures.2.0 ∙ ap rest t.2, c.load.ensures.2.1 ∙ (λ i. record (t.3 i) { out = 0 }))
