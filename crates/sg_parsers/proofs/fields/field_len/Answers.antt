use Rattle.std.proofs.Common.{sym, ◌∙◌}
use Rattle.sg_parsers.proofs.RunLemmas.{front-plain}
use Rattle.sg_parsers.proofs.fields.field_len.Goals as goal

pub returns-clause-value : goal.returns-clause-value
returns-clause-value c =
    c.plain_len.ensures.value ∙ front-plain c.args.delimiters.now c.args.text.now (sym c.opens.ensures.value ∙ c.if-opens.false)
