use Rattle.std.proofs.Common.{rules, ◌≡◌, ◌≤◌, [], ◌∷◌, Some, None, subst, sym}
use Rattle.atomic_table.specs.Table.{opening}
use Rattle.sg_booth.specs.declared.table.ServedOffice.{ServedOffice}
use Rattle.sg_booth.specs.Rule.{IsTableKept, first_notes}
use Rattle.sg_booth.proofs.Keeps.{opens}
use Rattle.sg_booth.proofs.booth.Booth.new.Goals as goal

pub new-requires : goal.new-requires
new-requires g c =
    let held : ServedOffice g.row.V.Denot g.row.V-Call.Denot g.row.V-Reply.Denot = record { office = c.args.value; said = None } in
    let is : c.push_reserved.new.self.items ≡ Some held ∷ [] = search rules in
    let same : c.of.result.value ≡ c.args.value = search rules in
    subst (λ xs. IsTableKept g.V.Office.step g.V.Office.may g.V.Office.room c.of.result.value c.args.turns (opening (0 ∷ 0 ∷ []) xs (first_notes c.of.result.value c.args.turns))) (sym is)
    (opens g.V.Office.step g.V.Office.may g.V.Office.room c.of.result.value c.args.turns held (sym same) c.requires.few (subst (λ v. c.args.turns ≤ g.V.Office.room v) (sym same) c.requires.room))

pub only_office-requires : goal.only_office-requires
only_office-requires g c =
    let held : ServedOffice g.row.V.Denot g.row.V-Call.Denot g.row.V-Reply.Denot = record { office = c.args.value; said = None } in
    let is : c.in-Err-new.field-0.slots.items ≡ Some held ∷ [] = search rules in
    (held, is)
