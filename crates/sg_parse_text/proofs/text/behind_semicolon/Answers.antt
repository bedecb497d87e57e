use Rattle.std.proofs.Common.{sym, ◌∙◌}
use Rattle.sg_parse_text.proofs.Standing.{semicolon-seen, semicolon-missed}
use Rattle.sg_parse_text.proofs.text.behind_semicolon.Goals as goal

pub returns-then-sees_symbol : goal.returns-then-sees_symbol
returns-then-sees_symbol c = semicolon-seen c.args.tokens.now c.args.at c.if-sees_symbol.ensures.within (sym c.sees_symbol.ensures.seen ∙ c.if-sees_symbol.true)

pub returns : goal.returns
returns c =
    let u = c.unexpected.ensures in
    (_, u.0, semicolon-missed c.args.tokens.now c.args.at (sym c.sees_symbol.ensures.seen ∙ c.if-sees_symbol.false), u.1, u.2)
