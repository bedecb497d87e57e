use Rattle.std.proofs.Common.{sym, ◌∙◌}
use Rattle.std.proofs.lemmas.Bool.{OnTrue_from}
use Rattle.sg_parse_text.proofs.Standing.{sees-some, sees-none, within}
use Rattle.sg_parse_text.proofs.place.sees_symbol.Goals as goal

pub returns-in-Some-clause-seen : goal.returns-in-Some-clause-seen
returns-in-Some-clause-seen c = c.is_symbol.ensures ∙ sym (sees-some c.args.byte c.args.tokens.now c.args.at _ (sym c.in-Some.ensures))

pub returns-in-Some-clause-within : goal.returns-in-Some-clause-within
returns-in-Some-clause-within c = OnTrue_from _ _ (λ _. within c.args.tokens.now c.args.at _ (sym c.in-Some.ensures))

pub returns-in-None-clause-seen : goal.returns-in-None-clause-seen
returns-in-None-clause-seen c = sym (sees-none c.args.byte c.args.tokens.now c.args.at (sym c.in-None.ensures))
