use Rattle.std.proofs.Common.{◌≡◌, ◌+◌, ◌∷◌, ◌∙◌, sym, ap, arith, drop}
use Rattle.std.proofs.lemmas.List.{drop_more}
use Rattle.sg_machine.proofs.TurnLemmas.{too-few}
use Rattle.sg_machine.proofs.admits.admit_records.Goals as goal

pub returns-then-rest-count-clause-turns : goal.returns-then-rest-count-clause-turns
returns-then-rest-count-clause-turns c =
    let k = c.loop-admission.admission-index in
    let item = c.admission-item.result in
    let rest = drop (k + 1) c.args.records.now in
    let parts : drop k c.args.records.now ≡ item ∷ rest = drop_more c.args.records.now k item (omega arith) ∙ ap (λ x. x ∷ rest) (sym c.admission-item.is) in
    sym c.loop-admission.invariant.turns ∙ rw parts (too-few c.args.i c.args.failing.now c.loop-admission.run item rest c.loop-admission.rest.now (omega arith))
