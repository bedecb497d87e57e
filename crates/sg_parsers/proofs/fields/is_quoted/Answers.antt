use Rattle.std.proofs.Common.{sym, ◌∙◌}
use Rattle.sg_parsers.proofs.FieldLemmas.{unquoted_value}
use Rattle.sg_parsers.proofs.fields.is_quoted.Goals as goal

-- what doesn't begin with a quote says itself
pub returns : goal.returns
returns c = λ no. unquoted_value c.args.written.now (sym c.has_at.ensures.value ∙ no)
