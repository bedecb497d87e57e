use Rattle.std.proofs.Common.{sym, ◌∙◌, arith}
use Rattle.sg_template.specs.Names.{severity_names}
use Rattle.sg_options.proofs.Places.{place_found, place_none, severities}
use Rattle.sg_options.proofs.names.named_level.Goals as goal

pub returns-then-eq-clause-value : goal.returns-then-eq-clause-value
returns-then-eq-clause-value c =
    let text = c.args.text.now in
    let is = rw c.severity_name.ensures at (sym c.if-eq.ensures) in
    sym (c.loop-severity.invariant ∙ place_found severity_names c.loop-severity.severity text (omega (arith, severities)) is)

pub returns-clause-value : goal.returns-clause-value
returns-clause-value c =
    sym (c.loop-severity.invariant ∙ place_none severity_names c.loop-severity.severity c.args.text.now (omega (arith, severities)))
