use Rattle.std.proofs.Common.{refl, arith}
use Rattle.sg_parse_base.proofs.Spots.{spots-at, spots-none}
use Rattle.sg_parse_base.proofs.cursor.Cursor.line.Goals as goal

pub returns-then-self : goal.returns-then-self
returns-then-self c = rw (← c.self.view_is, spots-none c.self.inside.tokens.now c.self.inside.at (omega arith)) refl

pub returns : goal.returns
returns c = rw (← c.self.view_is, spots-at c.self.inside.tokens.now c.self.inside.at c.token_at.result.now c.token_at.ensures, c.line_of.ensures) refl
