use Rattle.std.proofs.Common.{arith, ◌<◌, [], ◌∷◌, ◌++◌, Some, refl, sym, ap, ◌∙◌, subst}
use Rattle.atomic_table.specs.Table.{rest}
use Rattle.sg_booth.specs.declared.table.ServedOffice.{ServedOffice}
use Rattle.sg_booth.specs.Rule.{IsHistoryGiven, exchange_of}
use Rattle.sg_booth.proofs.Keeps.{passes}
use Rattle.sg_booth.proofs.steps.pass.Goals as goal

pub fetch_add-served-requires : goal.fetch_add-served-requires
fetch_add-served-requires g c =
    let words = c.requires.table.1.0 in
    let about = c.args.lock.now.shared.key in
    let now = c.exchange-before.ensures.3 in
    let same = ap (λ m. m.0) now in
    let held : ServedOffice g.row.V.Denot g.row.V-Call.Denot g.row.V-Reply.Denot = record { office = c.args.office; said = Some c.args.said } in (
      c.exchange-before.ensures.0 ∙ c.requires.table.0,
      omega arith,
      passes g.V.Office.step g.V.Office.may g.V.Office.room about.made.value about.turns _ _ _ _ held c.args.said (ap (λ m. m.1) now ∙ ap (λ cs. (0, Some held) ∷ rest cs) c.requires.inside.0)
          (subst (λ v. 0 < v.sure) (sym same) c.requires.inside.1) (ap (λ v. v.out) same ∙ c.requires.inside.2) refl
          (subst (λ v. IsHistoryGiven g.V.Office.step g.V.Office.may g.V.Office.room about.made.value (v.seen ++ exchange_of c.args.said ∷ []) c.args.office) (sym same) c.requires.given),
    )
