use Rattle.std.proofs.Common.{arith}
use Rattle.sg_booth.proofs.Keeps.{draws}
use Rattle.sg_booth.proofs.steps.draw.Goals as goal

pub fetch_add-requires : goal.fetch_add-requires
fetch_add-requires g c =
    let words = c.requires.table.1.0 in
    let about = c.args.lock.now.shared.key in
    (c.requires.table.0, omega arith, draws g.V.Office.step g.V.Office.may g.V.Office.room about.made.value about.turns _ _ _ _ c.requires.idle.2 c.requires.idle.0 c.requires.idle.1)
