use Rattle.std.proofs.Common.{drop, arith}
use Rattle.std.proofs.lemmas.List.{length-drop}
use Rattle.sg_parse_base.proofs.Spots.{spots-length}
use Rattle.sg_parse_base.proofs.cursor.Cursor.left.Goals as goal

pub returns : goal.returns
returns c =
    let t = c.self.inside.tokens.now in
    let size = spots-length c.self.inside.at (drop c.self.inside.at t) in
    let rest = length-drop c.self.inside.at t in
    rw (← c.self.view_is, size, rest) (grind arith)
