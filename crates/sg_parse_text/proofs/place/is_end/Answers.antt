use Rattle.std.proofs.Common.{sym, ◌∙◌}
use Rattle.std.proofs.lemmas.Bool.{OnTrue_from}
use Rattle.sg_parse_text.proofs.Standing.{ends-some, ends-none, within}
use Rattle.sg_parse_text.proofs.place.is_end.Goals as goal

pub returns-in-Some-clause-ends : goal.returns-in-Some-clause-ends
returns-in-Some-clause-ends c = sym (ends-some c.args.tokens.now c.args.at _ (sym c.in-Some.ensures))

pub returns-in-Some-clause-within : goal.returns-in-Some-clause-within
returns-in-Some-clause-within c = within c.args.tokens.now c.args.at _ (sym c.in-Some.ensures)

pub returns-in-None-clause-ends : goal.returns-in-None-clause-ends
returns-in-None-clause-ends c = sym (ends-none c.args.tokens.now c.args.at (sym c.in-None.ensures))
