use Rattle.std.proofs.Common.{sym, ◌∙◌, arith}
use Rattle.sg_template.specs.Names.{facility_names}
use Rattle.sg_options.proofs.Places.{place_found, place_none, facilities}
use Rattle.sg_options.proofs.names.named_facility.Goals as goal

pub returns-then-eq-clause-value : goal.returns-then-eq-clause-value
returns-then-eq-clause-value c =
    let text = c.args.text.now in
    let is = rw c.facility_name.ensures at (sym c.if-eq.ensures) in
    sym (c.loop-facility.invariant ∙ place_found facility_names c.loop-facility.facility text (omega (arith, facilities)) is)

pub returns-clause-value : goal.returns-clause-value
returns-clause-value c =
    sym (c.loop-facility.invariant ∙ place_none facility_names c.loop-facility.facility c.args.text.now (omega (arith, facilities)))
