use Rattle.std.proofs.Common.{rules, arith, ◌≡◌, ap, ◌∙◌, subst}
use Rattle.sg_booth.specs.Rule.{TakesStep}
use Rattle.sg_booth.proofs.Keeps.{looks}
use Rattle.sg_booth.proofs.steps.wait.Goals as goal

pub load-serving-requires : goal.load-serving-requires
load-serving-requires g c =
    let words = c.requires.table.1.0 in
    let about = c.args.lock.now.shared.key in
    let same = c.loop.invariant.2 in (
      c.loop.invariant.0 ∙ c.requires.table.0,
      omega arith,
      looks g.V.Office.step g.V.Office.may g.V.Office.room about.made.value about.turns _ _ _ _ _ (ap (λ m. m.0.ticket) same ∙ c.requires.drawn.0) (ap (λ m. m.0.sure) same ∙ c.requires.drawn.1) (ap (λ m. m.0.out) same ∙ c.requires.drawn.2),
    )

pub returns-then-serving-ticket-clause-takes : goal.returns-then-serving-ticket-clause-takes
returns-then-serving-ticket-clause-takes g c =
    let same = c.loop.invariant.2 in
    let told = c.load-serving.ensures.2 c.args.ticket (ap (λ m. m.0.ticket) same ∙ c.requires.drawn.0) (ap (λ m. m.0.sure) same ∙ c.requires.drawn.1) in
    let found : c.load-serving.result ≡ c.args.ticket = search rules in
    subst (λ m. TakesStep g.V.Office.step g.V.Office.may g.V.Office.room m c.load-serving.new.seat.me) same (told.0 found)
