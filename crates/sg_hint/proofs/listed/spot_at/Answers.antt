use Rattle.std.proofs.Common.{◌≡◌, refl, subst}
use Rattle.sg_hint.specs.Meanings.{name_of}
use Rattle.sg_hint.specs.Listed.{column_at}
use Rattle.sg_hint.proofs.Positions.{spotted-by}
use Rattle.sg_hint.proofs.listed.spot_at.Goals as goal

pub returns-in_ok-meant-in-Some : goal.returns-in_ok-meant-in-Some
returns-in_ok-meant-in-Some c = spotted-by c.args.fault.now.kind c.args.list.now.tokens.items c.args.at
    (column_at c.args.list.now.tokens.items c.args.list.now.lines.items c.args.fault.now.line c.args.at) c.in-Some.column
    (record { column = c.in-Some.column; meant = c.in_ok-meant-in-Some.field-0 }) c.in-Some.ensures refl
    (subst (λ tokens. c.in_ok-meant-in-Some.field-0 ≡ name_of c.args.fault.now.kind tokens c.args.at) c.deref.ensures.value
    c.in_ok-meant-in-Some.ensures)
