use Rattle.std.proofs.Common.{sym, ◌∙◌}
use Rattle.std.proofs.lemmas.Bool.{OnTrue_from}
use Rattle.sg_parse_text.proofs.Standing.{word-some, word-none}
use Rattle.sg_parse_text.proofs.place.sees_keyword.Goals as goal

pub returns-in-Some : goal.returns-in-Some
returns-in-Some c = c.is_keyword.ensures ∙ sym (word-some c.args.word.now c.args.tokens.now c.args.at _ (sym c.in-Some.ensures))

pub returns-in-None : goal.returns-in-None
returns-in-None c = sym (word-none c.args.word.now c.args.tokens.now c.args.at (sym c.in-None.ensures))
