use Rattle.std.proofs.Common.{sym, ◌∙◌}
use Rattle.std.proofs.lemmas.Bool.{OnTrue_from}
use Rattle.sg_parse_text.proofs.Standing.{unexpected-some, unexpected-none}
use Rattle.sg_parse_text.proofs.place.unexpected.Goals as goal

pub returns-in-Some : goal.returns-in-Some
returns-in-Some c = unexpected-some c.args.tokens.now c.args.at _ _ c.requires (sym c.in-Some.ensures) c.unexpected_at.ensures

pub returns-in-None : goal.returns-in-None
returns-in-None c = unexpected-none c.args.tokens.now c.args.at _ _ c.last_of.ensures (sym c.in-None.ensures) c.unexpected_at-in-None.ensures
