use Rattle.std.proofs.Common.{arith}
use Rattle.sg_booth.proofs.Keeps.{cuts}
use Rattle.sg_booth.proofs.steps.cut.Goals as goal

pub split_seat-requires : goal.split_seat-requires
split_seat-requires g c =
    let words = c.requires.table.1.0 in
    let about = c.args.lock.now.shared.key in
    let amount = c.requires.amount in
    let enough = c.requires.left in
    (c.requires.table.0, omega arith, cuts g.V.Office.step g.V.Office.may g.V.Office.room about.made.value about.turns g.N.Amount.turns c.args.place.now.id c.args.place.now.me.0 (omega arith))
