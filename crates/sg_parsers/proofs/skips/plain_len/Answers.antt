use Rattle.std.proofs.Common.{◌∙◌}
use Rattle.sg_parsers.proofs.RunLemmas.{plain-first, plain-two, plain-any}
use Rattle.sg_parsers.proofs.skips.plain_len.Goals as goal

pub returns-in-len1-clause-value : goal.returns-in-len1-clause-value
returns-in-len1-clause-value c = c.before_one.ensures.value ∙ plain-first c.args.delimiters.now c.args.text.now _ c.in-len1.len_at_least c.in-len1.len_below

pub returns-in-len2-clause-value : goal.returns-in-len2-clause-value
returns-in-len2-clause-value c = c.before_either.ensures.value ∙ plain-two c.args.delimiters.now c.args.text.now _ c.in-len2.len_at_least c.in-len2.len_below

pub returns-in_default-clause-value : goal.returns-in_default-clause-value
returns-in_default-clause-value c = c.before_any.ensures.value ∙ plain-any c.args.delimiters.now c.args.text.now
