use Rattle.std.proofs.Common.{refl, arith}
use Rattle.sg_parse_base.proofs.Spots.{spots-some}
use Rattle.sg_parse_base.proofs.cursor.Cursor.skip.Goals as goal

pub returns-then-self : goal.returns-then-self
returns-then-self c =
    let s = spots-some c.self.inside.tokens.now c.self.inside.at (omega arith) in
    rw (← c.self.view_is, s.1) refl
