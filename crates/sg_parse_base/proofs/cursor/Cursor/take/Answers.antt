use Rattle.std.proofs.Common.{refl, arith}
use Rattle.sg_parse_base.specs.Input.{any}
use Rattle.sg_parse_base.proofs.Spots.{spots-at, spots-none}
use Rattle.sg_parse_base.proofs.cursor.Cursor.take.Goals as goal

pub returns-then-self : goal.returns-then-self
unfolding any
returns-then-self c = rw (c.fault.ensures, ← c.self.view_is, spots-none c.self.inside.tokens.now c.self.inside.at (omega arith)) refl

pub returns : goal.returns
unfolding any
returns c = rw (← c.self.view_is, spots-at c.self.inside.tokens.now c.self.inside.at c.token_at.result.now c.token_at.ensures, c.in_ok-copy_token.ensures {u = tt}) refl
